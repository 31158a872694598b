-- What appending a record makes of a journal, at its end and at every moment before.
use Rattle.std.specs.Prelude.{ℕ, ◌+◌, ◌≡◌, List, [], ◌∷◌, ◌++◌, length, Option, ◌⊎◌}
use Rattle.racf_outside.specs.Crashes.{StaysIn}
use Rattle.racf_outside.specs.Disk.{History}
use Rattle.racf_journal.specs.declared.fault.JournalFault.{JournalFault}
use Rattle.racf_journal.specs.declared.fault.JournalFault.TheVariants as fault
use Rattle.racf_journal.specs.Kept.{Keeps, IsAppended}

-- Whatever records the disk kept, it keeps them and one more, and the closed gate stands behind that.
abbrev pub Acknowledges : (start gate : ℕ) → (next : List ℕ) → (old new : Option History) → Type 0
Acknowledges start gate next old new =
    (front : List ℕ) (records : List (List ℕ)) → Keeps front start gate records old
    → Keeps front start (gate + 1 + length next) (records ++ next ∷ []) new

-- Whatever records the disk kept, every crash meanwhile leaves a file that is read as these, or as these and one more,
-- and is no longer than it is then.
abbrev pub LeavesEither : (start gate : ℕ) → (next : List ℕ) → (old new : Option History) → Type 0
LeavesEither start gate next old new =
    (front : List ℕ) (records : List (List ℕ)) → Keeps front start gate records old
    → StaysIn (IsAppended front records next gate) old new

-- the faults that an append may have
abbrev pub IsOfAppend : JournalFault → Type 0
IsOfAppend why = (why ≡ fault.DiskFault) ⊎ (why ≡ fault.Full) ⊎ (why ≡ fault.NoMemory)
