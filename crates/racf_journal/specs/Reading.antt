-- What a file's bytes say: the records of its journal, or why it has none.
use Rattle.std.specs.Prelude.{ℕ, suc, zero, ◌+◌, ◌≡◌, Bool, false, ◌||◌, ◌==◌, nat_lt, List, [], ◌∷◌, ◌++◌, length, take, drop, codes, Result, Ok, Err, if◌then◌else◌, bytes_eq}
use Rattle.byteorder.specs.Endian.{big_number}
use Rattle.racf_journal.specs.declared.fault.JournalFault.{JournalFault}
use Rattle.racf_journal.specs.declared.fault.JournalFault.TheVariants.{NotFormatted, Damaged}

-- what the file of a journal begins with that stands alone, and so begins at place 8
abbrev pub magic : List ℕ
magic = codes "RACFJNL1"

-- Whether a journal may begin there: at place 8 only behind these bytes. What lies before a later start isn't asked.
abbrev pub is_formatted : (start : ℕ) → (file : List ℕ) → Bool
is_formatted start file = nat_lt 8 start || bytes_eq (take 8 file) magic

-- How many bytes the record in front of these takes: four, which tell the length of the rest, and that rest.
abbrev pub claims : List ℕ → ℕ
claims bytes = 4 + big_number 4 bytes

-- These bytes are one record, and no more.
abbrev pub IsRecord : List ℕ → Type 0
IsRecord bytes = claims bytes ≡ length bytes

-- The open records, and the place of the closed gate behind them.
pub record Reading : Type 0 where
  pub records : List (List ℕ)
  pub gate : ℕ

-- no record, and a closed gate here
abbrev pub ends_at : ℕ → Result Reading JournalFault
ends_at place = Ok (record { records = []; gate = place })

-- this record, and then what else was read
abbrev pub and_then_read : List ℕ → Result Reading JournalFault → Result Reading JournalFault
and_then_read first (Ok more) = Ok (record { records = first ∷ more.records; gate = more.gate })
and_then_read first (Err fault) = Err fault

-- A gate X'01' that a byte follows is open: a whole record stands behind it, or it is damaged, and then the next gate.
-- Any other byte, or the file's end, is closed and ends the journal. `skip` bytes in front still belong to a record.
abbrev pub walk : (skip place : ℕ) → (bytes : List ℕ) → Result Reading JournalFault
walk skip place [] = ends_at place
walk (suc skip) place (byte ∷ bytes) = walk skip (suc place) bytes
walk zero place (gate ∷ []) = ends_at place
walk zero place (gate ∷ byte ∷ bytes) =
    if gate == 1 then (
    if nat_lt (length (byte ∷ bytes)) (claims (byte ∷ bytes)) then Err (Damaged place)
    else and_then_read (take (claims (byte ∷ bytes)) (byte ∷ bytes)) (walk (claims (byte ∷ bytes)) (suc place) (byte ∷ bytes)))
    else ends_at place

-- what a file says of the journal that begins at this place
abbrev pub reading : (start : ℕ) → (file : List ℕ) → Result Reading JournalFault
reading start file = if is_formatted start file then walk zero start (drop start file) else Err NotFormatted

-- whether the gate in front is open
abbrev pub is_open : List ℕ → Bool
is_open [] = false
is_open (gate ∷ []) = false
is_open (gate ∷ byte ∷ bytes) = gate == 1

-- Where it isn't, these bytes end a journal.
abbrev pub IsEnd : List ℕ → Type 0
IsEnd bytes = is_open bytes ≡ false

-- the bytes of these records, each behind its open gate
abbrev pub spelled : List (List ℕ) → List ℕ
spelled [] = []
spelled (first ∷ records) = 1 ∷ (first ++ spelled records)
