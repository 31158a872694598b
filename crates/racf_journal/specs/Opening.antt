-- What opening a journal finds, and what crashes within it leave.
use Rattle.std.specs.Prelude.{ℕ, ◌+◌, ◌<◌, ◌≤◌, ◌≡◌, max, List, length, take, Option, Ok, Err, ◌⊎◌}
use Rattle.std.specs.Option.{option_map}
use Rattle.racf_outside.specs.Causes.{Rose}
use Rattle.racf_outside.specs.Crashes.{StaysIn}
use Rattle.racf_outside.specs.Disk.{History, goes, Now}
use Rattle.racf_outside.specs.Moments.{Moment, IsImage, synced}
use Rattle.racf_journal.specs.declared.fault.JournalFault.{JournalFault}
use Rattle.racf_journal.specs.declared.fault.JournalFault.TheVariants as fault
use Rattle.racf_journal.specs.Reading.{Reading, reading}

-- A journal that was read and isn't open yet, as data: its disk, the place where it begins, that of its last gate, and
-- its records.
pub record FoundOn (D : Type 0) : Type 0 where
  pub disk : D
  pub start : ℕ
  pub gate : ℕ
  pub records : List (List ℕ)

-- A call synced the disk, which changes no byte of it: what is read now is what was read before, and might have been
-- left by a crash then.
pub record OnlySynced (old new : Option History) : Type 0 where
  pub was_left : Now old (λ moment. IsImage moment moment.bytes)
  pub is : new ≡ option_map (goes synced) old

-- Where a journal may begin: at place 8, or behind it within the file.
abbrev pub IsStart : (start : ℕ) → Option History → Type 0
IsStart start told = (start ≡ 8) ⊎ ((8 < start) × Now told (λ moment. start ≤ length moment.bytes))

-- A file was possible at that moment, as far as the bytes before the start and the reading go: a crash at it might have
-- left such bytes and that reading. It is no longer than that one, or than the closed gate behind the records wants.
pub record WasPossible (start : ℕ) (moment : Moment) (file : List ℕ) : Type 0 where
  pub image : List ℕ
  pub was_left : IsImage moment image
  pub front : take start file ≡ take start image
  pub reads : reading start file ≡ reading start image
  pub ends : (found : Reading) → reading start image ≡ Ok found → length file ≤ max (length image) (found.gate + 1)

-- At every moment of the opening a crash leaves what was possible when it began.
abbrev pub StaysPossible : (start : ℕ) → (old new : Option History) → Type 0
StaysPossible start old new = (before : Moment) → Now old (λ moment. moment ≡ before) → StaysIn (WasPossible start before) old new

-- A call fails for the fault that the file's reading is, for a fault of the disk, or for want of memory.
abbrev pub Refuses : (start : ℕ) → (file : List ℕ) → JournalFault → Type 0
Refuses start file why = (reading start file ≡ Err why) ⊎ (why ≡ fault.DiskFault) ⊎ (why ≡ fault.NoMemory)

-- a fault of the disk is answered only where its count rose
abbrev pub IsCaused : (before now : ℕ) → JournalFault → Type 0
IsCaused before now why = why ≡ fault.DiskFault → Rose before now
