-- What a store keeps on its two disks, and what crashes leave of it.
use Rattle.std.specs.Prelude.{ℕ, ◌≡◌, true, List, Option, Some}
use Rattle.racf_outside.specs.Crashes.{Leaves, StaysIn}
use Rattle.racf_outside.specs.Disk.{History, Now}
use Rattle.racf_outside.specs.Moments.{Moment, IsImage}
use Rattle.racf_journal.specs.Kept.{JournalOn, IsAtRest}
use Rattle.checkpoint_disks.specs.declared.counting.Side.{Side}
use Rattle.checkpoint_disks.specs.declared.counting.Side.TheVariants.{First, Second}
use Rattle.checkpoint_disks.specs.Files.{CheckpointRead, head_is_open, epoch_of}
use Rattle.checkpoint_disks.specs.Counting.{which, said}
use Rattle.checkpoint_disks.specs.Compacting.{with_image, IsCheckpoint, IsIdle, first_of, second_of}

-- A store as data: the journal, which is on the disk that counts, the other disk, the side of the one that counts, and
-- the epoch of its checkpoint.
pub record StoreOn (D : Type 0) : Type 0 where
  pub journal : JournalOn D
  pub idle : D
  pub side : Side
  pub epoch : ℕ

-- the first of two for the one side, the second for the other
abbrev pub pick : {X : Type 0} → Side → (first second : X) → X
pick First first second = first
pick Second first second = second

abbrev pub other : Side → Side
other First = Second
other Second = First

-- the disk on a side
abbrev pub disk_on : {D : Type 0} → Side → StoreOn D → D
disk_on First store = pick store.side store.journal.disk store.idle
disk_on Second store = pick store.side store.idle store.journal.disk

-- The disk that counts holds this checkpoint, the journal of its records, and nothing else, and a crash changes none of
-- it.
pub record IsStored (epoch start gate : ℕ) (kept : CheckpointRead) (live : Moment) : Type 0 where
  pub is_of : kept.epoch ≡ epoch
  pub lawful : IsCheckpoint kept
  pub rest : IsAtRest (with_image kept.epoch kept.number lawful.image) start gate kept.records live

-- The other disk doesn't count, whatever file of this epoch with an open head gate is on this side; and a crash changes
-- nothing on it.
pub record IsPassedOver (side : Side) (epoch : ℕ) (idle : Moment) : Type 0 where
  pub at_rest : IsIdle idle
  pub counts : (live : List ℕ) → head_is_open live ≡ true → epoch_of live ≡ epoch
      → which (first_of side live idle.bytes) (second_of side live idle.bytes) ≡ Some side

-- a store keeps this checkpoint and its records, by what its disks tell
pub record Stores {D : Type 0} (tells : D → Option History) (store : StoreOn D) (kept : CheckpointRead) : Type 0 where
  pub live : Now (tells store.journal.disk) (IsStored store.epoch store.journal.start store.journal.gate kept)
  pub idle : Now (tells store.idle) (IsPassedOver store.side store.epoch)

-- a store keeps some checkpoint, and so takes a record or another checkpoint
pub record IsReady {D : Type 0} (tells : D → Option History) (store : StoreOn D) : Type 0 where
  pub live : Now (tells store.journal.disk) (λ m. (kept : CheckpointRead) × IsStored store.epoch store.journal.start store.journal.gate kept m)
  pub idle : Now (tells store.idle) (IsPassedOver store.side store.epoch)

-- What is read of both disks now has P.
abbrev pub NowRead : (first second : Option History) → (P : (first second : List ℕ) → Type 0) → Type 0
NowRead first second P = Now first (λ one. Now second (λ other. P one.bytes other.bytes))

-- Beside whatever a crash now leaves of the other disk, this file has P on its side.
abbrev pub Beside : Side → (other : Option History) → (P : (first second : List ℕ) → Type 0) → (file : List ℕ) → Type 0
Beside side other P file = Now other (Leaves (λ image. P (first_of side file image) (second_of side file image)))

-- Beside every other file, two files say the same, on either side.
pub record SaysAs (one two : List ℕ) : Type 0 where
  pub first : (other : List ℕ) → said one other ≡ said two other
  pub second : (other : List ℕ) → said other one ≡ said other two

-- A file says what was possible at that moment of its disk, beside every other file: a crash at it might have left one
-- that says the same.
pub record WasPossible (before : Moment) (file : List ℕ) : Type 0 where
  pub image : List ℕ
  pub was_left : IsImage before image
  pub says : SaysAs file image

-- At every moment of a call a crash leaves of this disk what was possible when it began.
abbrev pub StaysPossible : (old new : Option History) → Type 0
StaysPossible old new = (before : Moment) → Now old (λ moment. moment ≡ before) → StaysIn (WasPossible before) old new
