-- What the bytes of one file say: a checkpoint, or the first fault.
use Rattle.std.specs.Prelude.{ℕ, ◌+◌, ◌-◌, ◌^◌, ◌≡◌, ◌==◌, ◌||◌, ◌⊎◌, nat_lt, Bool, List, length, take, drop, get_or, codes, bytes_eq, Result, Ok, Err, if◌then◌else◌}
use Rattle.std.specs.List.{slice_range}
use Rattle.byteorder.specs.Endian.{big_number}
use Rattle.racf_profiles.specs.declared.rows.Rows.{Rows}
use Rattle.database_image.specs.Image.{rows_of}
use Rattle.racf_journal.specs.Reading.{Reading, reading}
use Rattle.racf_journal.specs.declared.fault.JournalFault.{JournalFault}
use Rattle.racf_journal.specs.declared.fault.JournalFault.TheVariants as journal
use Rattle.checkpoint_disks.specs.declared.fault.CheckpointFault.{CheckpointFault}
use Rattle.checkpoint_disks.specs.declared.fault.CheckpointFault.TheVariants.{NotFormatted, Damaged, NoMemory}
use Rattle.checkpoint_disks.specs.declared.heads.Head.{Head}

-- what each file begins with
abbrev pub magic : List ℕ
magic = codes "RACFDB01"

abbrev pub is_formatted : (file : List ℕ) → Bool
is_formatted file = bytes_eq (take 8 file) magic

-- The head gate, at place 8, is open where it is X'01'. Every other byte is a closed gate, and so is none.
abbrev pub head_is_open : (file : List ℕ) → Bool
head_is_open file = get_or file 8 0 == 1

-- the number in the eight bytes at a place, the highest first
unfoldable pub number_at : (place : ℕ) → (file : List ℕ) → ℕ
number_at place file = big_number 8 (drop place file)

-- the epoch, at place 9: 0 where the file ends within it
unfoldable pub epoch_of : (file : List ℕ) → ℕ
epoch_of file = if nat_lt (length file) 17 then 0 else number_at 9 file

-- A file of more than 2^28 bytes says nothing: it is damaged there. Of a file only one byte more is read.
abbrev pub is_long : (file : List ℕ) → Bool
is_long file = nat_lt (2 ^ 28) (length file)

-- The fields in front of the image of a file that isn't too long: the epoch, which isn't 0; the number at place 17,
-- which is at most 2^62; the image's length at place 25, which doesn't reach past the file's end. The first that isn't
-- whole or isn't so is the fault.
unfoldable pub head_of : (file : List ℕ) → Result Head CheckpointFault
head_of file =
    if is_long file then Err (Damaged (2 ^ 28))
    else (if epoch_of file == 0 then Err (Damaged 9)
    else (if nat_lt (length file) 25 || nat_lt (2 ^ 62) (number_at 17 file) then Err (Damaged 17)
    else (if nat_lt (length file) 33 || nat_lt (length file - 33) (number_at 25 file) then Err (Damaged 25)
    else Ok (record { epoch = epoch_of file; number = number_at 17 file; start = 33 + number_at 25 file }))))

-- the rows of the image, whose places are told from the file's beginning
abbrev pub rows_read : Result Rows ℕ → Result Rows CheckpointFault
rows_read (Ok rows) = Ok rows
rows_read (Err place) = Err (Damaged (33 + place))

-- A journal whose closed gate has no room within the first 2^28 bytes is damaged there.
abbrev pub ends_within : Reading → Result Reading CheckpointFault
ends_within found = if nat_lt found.gate (2 ^ 28) then Ok found else Err (Damaged (2 ^ 28))

-- the records of the journal behind the image: its other fault is an open gate without a whole record
abbrev pub records_read : Result Reading JournalFault → Result Reading CheckpointFault
records_read (Ok found) = ends_within found
records_read (Err (journal.Damaged place)) = Err (Damaged place)
records_read (Err _) = Err NotFormatted

-- what comes next, where there was no fault before
infixl 10 ◌>>=◌
abbrev pub ◌>>=◌ : {A B : Type 0} → Result A CheckpointFault → (A → Result B CheckpointFault) → Result B CheckpointFault
(Ok x) >>= f = f x
(Err why) >>= f = Err why

-- A checkpoint as data: its epoch, its number, its rows, the place of its journal, the journal's records, and the place
-- of the closed gate behind them.
pub record CheckpointRead : Type 0 where
  pub epoch : ℕ
  pub number : ℕ
  pub rows : Rows
  pub start : ℕ
  pub records : List (List ℕ)
  pub gate : ℕ

-- The fields, the image from place 33 on, and the journal behind it, or the first fault of them.
unfoldable pub contents : (file : List ℕ) → Result CheckpointRead CheckpointFault
contents file = do
  head ← head_of file
  rows ← rows_read (rows_of (slice_range file 33 head.start))
  found ← records_read (reading head.start file)
  Ok (record { epoch = head.epoch; number = head.number; rows = rows; start = head.start; records = found.records; gate = found.gate })

-- A call answers what there is to be read, unless memory ran out.
abbrev pub Answers : {X A : Type 0} → (X → A) → Result X CheckpointFault → Result A CheckpointFault → Type 0
Answers view (Ok x) read = read ≡ Ok (view x)
Answers view (Err why) read = (why ≡ NoMemory) ⊎ (read ≡ Err why)
