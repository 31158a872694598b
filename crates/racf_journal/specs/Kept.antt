-- What a journal keeps on its disk, and what crashes leave of it.
use Rattle.std.specs.Prelude.{ℕ, ◌+◌, ◌≤◌, ◌≡◌, true, List, [], ◌∷◌, ◌++◌, length, take, Option, Ok, ◌⊎◌}
use Rattle.std.specs.List.{AllByRecursion}
use Rattle.racf_outside.specs.Disk.{History, Now}
use Rattle.racf_outside.specs.Moments.{Moment, durable}
use Rattle.racf_journal.specs.Reading.{is_formatted, reading, IsRecord, spelled}

-- A journal as data: its disk, the place where it begins, and that of its last gate.
pub record JournalOn (D : Type 0) : Type 0 where
  pub disk : D
  pub start : ℕ
  pub gate : ℕ

-- The disk holds `front`, these records behind open gates, a closed gate, and nothing else; a crash changes none of it.
pub record IsAtRest (front : List ℕ) (start gate : ℕ) (records : List (List ℕ)) (moment : Moment) : Type 0 where
  pub from : length front ≡ start
  pub formatted : is_formatted start front ≡ true
  pub to : gate ≡ start + length (spelled records)
  pub lawful : AllByRecursion IsRecord records
  pub is : moment ≡ durable (front ++ spelled records ++ 0 ∷ [])

-- the same of what a disk tells
abbrev pub Keeps : (front : List ℕ) → (start gate : ℕ) → (records : List (List ℕ)) → Option History → Type 0
Keeps front start gate records told = Now told (IsAtRest front start gate records)

-- a disk keeps some records behind some front
abbrev pub IsResting : (start gate : ℕ) → Moment → Type 0
IsResting start gate moment = (front : List ℕ) × (records : List (List ℕ)) × IsAtRest front start gate records moment

-- A file begins with `front`, and is read behind it as these records.
pub record ReadsAs (front : List ℕ) (records : List (List ℕ)) (file : List ℕ) : Type 0 where
  pub front_stays : take (length front) file ≡ front
  pub reads : reading (length front) file ≡ Ok (record { records = records; gate = length front + length (spelled records) })

-- A file is read as these records, or as these and one more.
abbrev pub ReadsAsEither : (front : List ℕ) → (records : List (List ℕ)) → (next : List ℕ) → (file : List ℕ) → Type 0
ReadsAsEither front records next file = ReadsAs front records file ⊎ ReadsAs front (records ++ next ∷ []) file

-- The same, and the file is no longer than it is once that one is appended.
abbrev pub IsAppended : (front : List ℕ) → (records : List (List ℕ)) → (next : List ℕ) → (gate : ℕ) → (file : List ℕ) → Type 0
IsAppended front records next gate file = ReadsAsEither front records next file × (length file ≤ gate + 2 + length next)
