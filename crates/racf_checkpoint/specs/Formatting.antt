-- What crashes leave of the two files while a new store is made of them.
use Rattle.std.specs.Prelude.{ℕ, ◌≡◌, ◌⊎◌, List, [], Option}
use Rattle.racf_outside.specs.Crashes.{Leaves, StaysIn}
use Rattle.racf_outside.specs.Disk.{History, Now}
use Rattle.racf_outside.specs.Moments.{Moment, IsImage, durable}
use Rattle.racf_profiles.specs.NewDatabase.{new_database}
use Rattle.checkpoint_disks.specs.Baring.{SaysNothing, first_to_go}
use Rattle.checkpoint_disks.specs.declared.counting.Side.{Side}
use Rattle.checkpoint_disks.specs.declared.counting.Side.TheVariants.{First, Second}
use Rattle.checkpoint_disks.specs.Files.{CheckpointRead}
use Rattle.checkpoint_disks.specs.Compacting.{with_head, new_file, new_checkpoint}
use Rattle.racf_checkpoint.specs.Contents.{Says}
use Rattle.racf_checkpoint.specs.Stored.{NowRead, WasPossible, Beside}

-- A file says what was possible when the call began, or it says nothing.
abbrev pub WasOrSaysNothing : (before : Moment) → (file : List ℕ) → Type 0
WasOrSaysNothing before file = WasPossible before file ⊎ SaysNothing file

-- the same, or the file of a new database's checkpoint
abbrev pub WasOrIsNew : (before : Moment) → (file : List ℕ) → Type 0
WasOrIsNew before file = WasOrSaysNothing before file ⊎ (file ≡ new_file 1 0 new_database)

-- At every moment of the call a crash leaves of this disk a file that says what was possible before, or nothing.
abbrev pub StaysBaring : (old new : Option History) → Type 0
StaysBaring old new = (before : Moment) → Now old (λ moment. moment ≡ before) → StaysIn (WasOrSaysNothing before) old new

-- the same, or the file of a new database's checkpoint
abbrev pub StaysFormatting : (old new : Option History) → Type 0
StaysFormatting old new = (before : Moment) → Now old (λ moment. moment ≡ before) → StaysIn (WasOrIsNew before) old new

-- The disk that isn't on this side is as it was, or the one that is has a bare file, which no crash changes.
abbrev pub GoesBefore : Side → (first second next_first next_second : Option History) → Type 0
GoesBefore First first second next_first next_second = (next_second ≡ second) ⊎ Now next_first (λ m. m ≡ durable (with_head 0 []))
GoesBefore Second first second next_first next_second = (next_first ≡ first) ⊎ Now next_second (λ m. m ≡ durable (with_head 0 []))

-- So it is of the side whose file is to go first.
abbrev pub InOrder : (first second next_first next_second : Option History) → Type 0
InOrder first second next_first next_second = NowRead first second (λ one two. GoesBefore (first_to_go one two) first second next_first next_second)

-- A checkpoint that two disks might have said at these moments: some two files said it that crashes might have left.
abbrev pub WasSaid : (one two : Moment) → CheckpointRead → Type 0
WasSaid one two kept = (first : List ℕ) × (second : List ℕ) × IsImage one first × IsImage two second × Says kept first second

-- Two files say nothing older: where they say a checkpoint, both disks might have said it at these moments, or it is
-- that of a new database.
abbrev pub SaysNoOlder : (one two : Moment) → (first second : List ℕ) → Type 0
SaysNoOlder one two first second = (kept : CheckpointRead) → Says kept first second → WasSaid one two kept ⊎ (kept ≡ new_checkpoint 1 0 new_database)

-- Whatever crashes now leave of both disks says nothing older than what both might have said when the call began.
abbrev pub LeavesNoOlder : (first second next_first next_second : Option History) → Type 0
LeavesNoOlder first second next_first next_second =
    (one two : Moment) → Now first (λ m. m ≡ one) → Now second (λ m. m ≡ two) → Now next_first (Leaves (Beside First next_second (SaysNoOlder one two)))
