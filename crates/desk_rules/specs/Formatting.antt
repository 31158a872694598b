-- What two files stand for while a new database is written over an old one.
use Rattle.std.specs.Prelude.{ℕ, ◌≡◌, ◌⊎◌, List, Option, Ok}
use Rattle.racf_outside.specs.Disk.{History, Now}
use Rattle.racf_outside.specs.Moments.{Moment, IsImage}
use Rattle.desk_rules.specs.Position.{Position, first_position, restarted}
use Rattle.desk_rules.specs.Recovery.{standing}
use Rattle.desk_rules.specs.Durable.{LeavesBoth}

-- A position that two disks might have stood for at these moments: some two files did that crashes might have left.
abbrev pub MightHaveStoodFor : (one two : Moment) → Position → Type 0
MightHaveStoodFor one two position = (first : List ℕ) × (second : List ℕ) × IsImage one first × IsImage two second × (standing first second ≡ Ok position)

-- Two files stand for nothing older: where they stand for a position, both disks might have stood for it at these
-- moments, or it is that of a new database.
abbrev pub StandsForNoOlder : (one two : Moment) → (first second : List ℕ) → Type 0
StandsForNoOlder one two first second = (position : Position) → standing first second ≡ Ok position → MightHaveStoodFor one two position ⊎ (position ≡ restarted first_position)

-- Whatever crashes now leave of both disks stands for nothing older than what both might have stood for before.
abbrev pub LeavesNoOlder : (first second next_first next_second : Option History) → Type 0
LeavesNoOlder first second next_first next_second =
    (one two : Moment) → Now first (λ m. m ≡ one) → Now second (λ m. m ≡ two) → LeavesBoth next_first next_second (StandsForNoOlder one two)
