-- The word `compact`, and what the program does to the database on the disks for it.
use Rattle.std.specs.Prelude.{◌≡◌, ◌⊎◌, ℕ, ◌+◌, ◌-◌, ◌^◌, ◌<◌, Bool, false, Option, List, [], ◌∷◌, codes}
use Rattle.std.specs.Str.{bytes_eq}
use Rattle.racf_outside.specs.Crashes.{StaysIn}
use Rattle.racf_outside.specs.Disk.{History}
use Rattle.racf_checkpoint.specs.Stored.{Beside, NowRead, StaysPossible, other, pick}
use Rattle.desk_rules.specs.Durable.{LeavesBoth, SaysEpoch, SaysCheckpoint}
use Rattle.desk_rules.specs.Position.{Position, compacted}
use Rattle.desk_rules.specs.Recovery.{StandsFor, StandsForEither}
use Rattle.statements.specs.declared.status.Status.{Status}
use Rattle.statements.specs.declared.status.Status.TheVariants.{Done, DiskFault, NoMemory}
use Rattle.racf_run.specs.Racf.{OpenedDisks, OpensOn, StoodFor}

-- The words `compact`.
abbrev pub is_compact : List (List ℕ) → Bool
is_compact (verb ∷ []) = bytes_eq verb (codes "compact")
is_compact others = false

-- The database was compacted: the checkpoint that was read was of this epoch, and whatever a crash now leaves of the
-- disks says a checkpoint of the position's number and rows, without records, of the next epoch, and so stands for the
-- position. Behind the last epoch, 2^64 - 1, there is no next one: the database is left as it is.
pub record CompactsTo (first second next_first next_second : Option History) (base : Position) : Type 0 where
  pub epoch : ℕ
  pub was : NowRead first second (SaysEpoch epoch)
  pub done : epoch < 2 ^ 64 - 1 → LeavesBoth next_first next_second (SaysCheckpoint (epoch + 1) base)
  pub stands : epoch < 2 ^ 64 - 1 → LeavesBoth next_first next_second (StandsFor (compacted base))
  pub last : epoch ≡ 2 ^ 64 - 1 → LeavesBoth next_first next_second (StandsFor base)

-- How it ends where the database was opened at a position: it was compacted, or a disk failed, or memory was wanting, and
-- then a crash leaves what stands for the position.
abbrev pub EndsCompact : (first second next_first next_second : Option History) → Status → Position → Type 0
EndsCompact first second next_first next_second status base =
    ((status ≡ Done) × CompactsTo first second next_first next_second base)
    ⊎ ((status ≡ DiskFault) ⊎ ((status ≡ NoMemory) × LeavesBoth next_first next_second (StandsFor base)))

-- The database was opened at a position. From then on a crash leaves what stands for the position, with the records
-- that were there or without any, and the disk that counted stays as it is: the checkpoint is written on the other one.
pub record CompactsAlong (first second next_first next_second : Option History) : Type 0 where
  pub base : Position
  pub stood : StoodFor first second base
  pub opened : OpenedDisks
  pub opens : OpensOn first second opened
  pub along : StaysIn (Beside (other opened.idle.side) opened.live (StandsForEither base (compacted base))) opened.idle.told (pick opened.idle.side next_second next_first)
  pub live : pick opened.idle.side next_first next_second ≡ opened.live

-- What every crash leaves meanwhile: where the database isn't opened, of each disk what was possible before.
abbrev pub MovesToCompact : (first second next_first next_second : Option History) → Type 0
MovesToCompact first second next_first next_second =
    (StaysPossible first next_first × StaysPossible second next_second) ⊎ CompactsAlong first second next_first next_second
