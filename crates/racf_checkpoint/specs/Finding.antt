-- What is known of two disks that were read.
use Rattle.std.specs.Prelude.{ℕ, ◌+◌, ◌≡◌, ◌<◌, ◌^◌, true, List, length, take, drop, Option, Some, Ok}
use Rattle.racf_outside.specs.Disk.{History, Now}
use Rattle.racf_outside.specs.Moments.{Moment, durable}
use Rattle.racf_journal.specs.Opening.{FoundOn as JournalFoundOn}
use Rattle.racf_profiles.specs.declared.rows.Rows.{Rows}
use Rattle.checkpoint_disks.specs.declared.counting.Side.{Side}
use Rattle.checkpoint_disks.specs.Files.{CheckpointRead, is_formatted}
use Rattle.checkpoint_disks.specs.Counting.{which, file_on, said}
use Rattle.checkpoint_disks.specs.Compacting.{IsCheckpoint, IsHeld}
use Rattle.racf_checkpoint.specs.Stored.{IsPassedOver, pick}

-- A store that was read and isn't open yet, as data: the journal on the disk that counts, the other disk, the side of
-- the one that counts, and its checkpoint.
pub record FoundOn (D : Type 0) : Type 0 where
  pub journal : JournalFoundOn D
  pub idle : D
  pub side : Side
  pub epoch : ℕ
  pub number : ℕ
  pub rows : Rows

-- what was read
abbrev pub found_in : {D : Type 0} → FoundOn D → CheckpointRead
found_in found = record {
  epoch = found.epoch;
  number = found.number;
  rows = found.rows;
  start = found.journal.start;
  records = found.journal.records;
  gate = found.journal.gate;
}

-- All that a disk holds is a file that says this of that image, and a crash changes none of it.
pub record HoldsRead (kept : CheckpointRead) (image : List ℕ) (live : Moment) : Type 0 where
  pub durable : live ≡ durable live.bytes
  pub held : IsHeld kept live.bytes
  pub image_is : held.lawful.image ≡ image

-- This was read of two disks: the one holds it, and the other doesn't count beside that.
pub record IsRead (live idle : Option History) (side : Side) (kept : CheckpointRead) : Type 0 where
  pub lawful : IsCheckpoint kept
  pub holds : Now live (HoldsRead kept lawful.image)
  pub passed : Now idle (IsPassedOver side kept.epoch)

-- Two files say this: it is held by the one that counts, which has `end` from the last gate on.
pub record IsSaid (one two : List ℕ) (side : Side) (kept : CheckpointRead) (end : List ℕ) : Type 0 where
  pub one_formatted : is_formatted one ≡ true
  pub two_formatted : is_formatted two ≡ true
  pub says : said one two ≡ Ok kept
  pub counts : which one two ≡ Some side
  pub held : IsHeld kept (file_on side one two)
  pub end_is : end ≡ drop kept.gate (file_on side one two)
  pub room : length (file_on side one two) < 2 ^ 64

-- The same of what was read of two disks, on which a crash changes nothing: of the one that counts all up to one byte
-- more than a file may have, of the other what tells which counts.
pub record IsSeen (first second : Option History) (side : Side) (kept : CheckpointRead) (end : List ℕ) : Type 0 where
  pub one : List ℕ
  pub two : List ℕ
  pub first_holds : Now first (λ m. (m ≡ durable m.bytes) × (one ≡ take (pick side (2 ^ 28 + 1) 17) m.bytes))
  pub second_holds : Now second (λ m. (m ≡ durable m.bytes) × (two ≡ take (pick side 17 (2 ^ 28 + 1)) m.bytes))
  pub said : IsSaid one two side kept end
