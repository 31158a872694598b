-- What the disks of a desk keep, and what every crash leaves of them.
use Rattle.std.specs.Prelude.{◌≡◌, Bool, true, List, ℕ, Option, Some, Ok}
use Rattle.racf_outside.specs.Crashes.{Leaves, StaysIn}
use Rattle.racf_outside.specs.Disk.{History, Now}
use Rattle.checkpoint_disks.specs.declared.counting.Side.{Side}
use Rattle.checkpoint_disks.specs.Files.{CheckpointRead}
use Rattle.checkpoint_disks.specs.Compacting.{new_checkpoint, IsCheckpoint}
use Rattle.racf_checkpoint.specs.Contents.{Says}
use Rattle.racf_checkpoint.specs.Stored.{Stores, Beside, StoreOn, disk_on, other}
use Rattle.desk_rules.specs.Position.{Position, compacted, restarted}
use Rattle.desk_rules.specs.Made.{Made, installed}
use Rattle.desk_rules.specs.Recovery.{recovered, StandsFor, StandsForEither}

-- This checkpoint and its records lead to this position, as far as it outlives a restart.
abbrev pub LeadTo : Position → CheckpointRead → Type 0
LeadTo position kept = recovered kept ≡ Ok (restarted position)

-- A store stands there: the journal's gate is where the position says, and the disks keep what leads there.
pub record StandsThere {D : Type 0} (tells : D → Option History) (store : StoreOn D) (position : Position) : Type 0 where
  pub gate : store.journal.gate ≡ position.gate
  pub kept : CheckpointRead
  pub ends : position.gate ≡ kept.gate
  pub epoch : kept.epoch ≡ store.epoch
  pub lawful : IsCheckpoint kept
  pub stores : Stores tells store kept
  pub leads : LeadTo position kept

-- The disk that doesn't count is the same one, and as it was.
pub record SameIdle {D : Type 0} (old new : StoreOn D) : Type 0 where
  pub side : new.side ≡ old.side
  pub idle : new.idle ≡ old.idle
  pub epoch : new.epoch ≡ old.epoch

-- That disk, as what is told of it: on which side the one stands that counts, and its history.
pub record IdleDisk : Type 0 where
  pub side : Side
  pub told : Option History

abbrev pub idle_of : {D : Type 0} → (tells : D → Option History) → StoreOn D → IdleDisk
idle_of tells store = record { side = store.side; told = tells store.idle }

-- Beside whatever a crash now leaves of it, this file of the disk that counts has P.
abbrev pub BesideIdle : IdleDisk → (P : (first second : List ℕ) → Type 0) → (file : List ℕ) → Type 0
BesideIdle idle P file = Beside idle.side idle.told P file

-- Whatever a crash now leaves of two disks, the two files have P.
abbrev pub LeavesBoth : (first second : Option History) → (P : (first second : List ℕ) → Type 0) → Type 0
LeavesBoth first second P = Now first (Leaves (λ one. Now second (Leaves (P one))))

-- Whatever a crash now leaves of both disks stands for this position.
abbrev pub LeavesIt : {D : Type 0} → (tells : D → Option History) → StoreOn D → Position → Type 0
LeavesIt tells store position = Now (tells store.journal.disk) (Leaves (BesideIdle (idle_of tells store) (StandsFor position)))

-- Two files say a checkpoint of this epoch.
abbrev pub SaysEpoch : (epoch : ℕ) → (first second : List ℕ) → Type 0
SaysEpoch epoch first second = (kept : CheckpointRead) × Says kept first second × (kept.epoch ≡ epoch)

-- Two files say the checkpoint of this epoch that is written of a position: its number, its rows, and no records.
abbrev pub SaysCheckpoint : (epoch : ℕ) → Position → (first second : List ℕ) → Type 0
SaysCheckpoint epoch position = Says (new_checkpoint epoch position.image.generation position.image.state.rows)

-- Whatever a crash now leaves of both disks says that checkpoint.
abbrev pub LeavesCheckpoint : {D : Type 0} → (tells : D → Option History) → StoreOn D → (epoch : ℕ) → Position → Type 0
LeavesCheckpoint tells store epoch position =
    Now (tells store.journal.disk) (Leaves (BesideIdle (idle_of tells store) (SaysCheckpoint epoch position)))

-- At every moment from the one store to the other, in which the disk that counts is written, a crash leaves what stands
-- for the one position or the next. The other disk stays as it is.
abbrev pub StaysEither : {D : Type 0} → (tells : D → Option History) → (old new : StoreOn D) → (position next : Position) → Type 0
StaysEither tells old new position next =
    StaysIn (BesideIdle (idle_of tells old) (StandsForEither position next)) (tells old.journal.disk) (tells new.journal.disk)

-- At every moment in which a checkpoint is written on the other disk, a crash leaves what stands for the position, with
-- the journal as it was or without records. The disk that counted stays as it is.
abbrev pub StaysThere : {D : Type 0} → (tells : D → Option History) → (old new : StoreOn D) → Position → Type 0
StaysThere tells old new position =
    StaysIn (Beside (other old.side) (tells old.journal.disk) (StandsForEither position (compacted position)))
    (tells old.idle) (tells (disk_on (other old.side) new))

-- Where the disks of a desk stand: at what was made last, where that is committed and not installed yet.
abbrev pub stands_at : (committed : Bool) → (made : Option Made) → Position → Position
stands_at true (Some made) position = installed position made
stands_at committed made position = position
