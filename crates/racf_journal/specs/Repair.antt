-- How the end of a journal is repaired, and what crashes meanwhile leave.
use Rattle.std.specs.Prelude.{ℕ, ◌+◌, ◌<◌, ◌≤◌, ◌≡◌, ◌^◌, true, List, ◌++◌, length, Option}
use Rattle.std.specs.List.{AllByRecursion}
use Rattle.racf_outside.specs.Disk.{History, Now}
use Rattle.racf_outside.specs.Moments.{Moment, durable}
use Rattle.racf_journal.specs.Reading.{is_formatted, IsRecord, IsEnd, spelled}

-- These bytes are whole records behind open gates, up to the gate at this place, and an end.
pub record IsScanned (start : ℕ) (bytes : List ℕ) (records : List (List ℕ)) (gate : ℕ) : Type 0 where
  pub end : List ℕ
  pub split : bytes ≡ spelled records ++ end
  pub ends : IsEnd end
  pub lawful : AllByRecursion IsRecord records
  pub to : gate ≡ start + length (spelled records)

-- all that the disk holds is these bytes, and a crash changes none of them
abbrev pub Holds : List ℕ → Option History → Type 0
Holds bytes told = Now told (λ moment. moment ≡ durable bytes)

-- whatever lies before the gate, the disk holds it and this end
abbrev pub HoldsEnd : (gate : ℕ) → (end : List ℕ) → Option History → Type 0
HoldsEnd gate end told = Now told (λ moment. (base : List ℕ) × (length base ≡ gate) × (moment ≡ durable (base ++ end)))

-- A file is these bytes and some end of a journal.
pub record Ends (base file : List ℕ) : Type 0 where
  pub end : List ℕ
  pub split : file ≡ base ++ end
  pub ends : IsEnd end

-- The same of a file that has at most so many bytes.
abbrev pub EndsWithin : (most : ℕ) → (base file : List ℕ) → Type 0
EndsWithin most base file = Ends base file × (length file ≤ most)

-- The disk holds some front, these records behind open gates, and this end; a crash changes none of it.
pub record HoldsFound (start : ℕ) (records : List (List ℕ)) (end : List ℕ) (moment : Moment) : Type 0 where
  pub front : List ℕ
  pub from : length front ≡ start
  pub formatted : is_formatted start front ≡ true
  pub is : moment ≡ durable (front ++ (spelled records ++ end))

-- what is kept of a journal that was read, while its disk is as it was found
pub record IsFound (start gate : ℕ) (records : List (List ℕ)) (end : List ℕ) (told : Option History) : Type 0 where
  pub to : gate ≡ start + length (spelled records)
  pub lawful : AllByRecursion IsRecord records
  pub ends : IsEnd end
  pub room : gate + length end < 2 ^ 64
  pub held : Now told (HoldsFound start records end)
