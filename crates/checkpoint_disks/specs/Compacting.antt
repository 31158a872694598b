-- What writing a checkpoint makes of the disk that doesn't count, at its end and at every moment before.
use Rattle.std.specs.Prelude.{ℕ, ◌+◌, ◌<◌, ◌≤◌, ◌^◌, ◌≡◌, ◌⊎◌, true, false, List, [], ◌∷◌, ◌++◌, length, drop, Result, Ok}
use Rattle.byteorder.specs.Endian.{big_bytes}
use Rattle.racf_profiles.specs.declared.rows.Rows.{Rows}
use Rattle.database_image.specs.Image.{AreImageOf, image_of, rows_of, IsStored}
use Rattle.racf_journal.specs.Kept.{ReadsAs}
use Rattle.racf_journal.specs.Reading.{spelled}
use Rattle.racf_outside.specs.Moments.{Moment, durable}
use Rattle.checkpoint_disks.specs.declared.counting.Side.{Side}
use Rattle.checkpoint_disks.specs.declared.counting.Side.TheVariants.{First, Second}
use Rattle.checkpoint_disks.specs.declared.fault.CheckpointFault.{CheckpointFault}
use Rattle.checkpoint_disks.specs.Files.{magic, is_formatted, head_is_open, epoch_of, CheckpointRead, contents}
use Rattle.checkpoint_disks.specs.Counting.{said}

-- ---- the files

-- a file with this head gate, and these bytes from place 9 on
abbrev pub with_head : (gate : ℕ) → (body : List ℕ) → List ℕ
with_head gate body = magic ++ gate ∷ body

-- the fields in front of an image
unfoldable pub fields : (epoch number size : ℕ) → List ℕ
fields epoch number size = big_bytes 8 epoch ++ (big_bytes 8 number ++ big_bytes 8 size)

-- what stands from place 9 on in the file of a new checkpoint: the fields, the image, and the closed gate of a journal
-- without records
unfoldable pub new_body : (epoch number : ℕ) → Rows → List ℕ
new_body epoch number rows = fields epoch number (length (image_of rows)) ++ (image_of rows ++ 0 ∷ [])

-- that file, whose head gate is open
abbrev pub new_file : (epoch number : ℕ) → Rows → List ℕ
new_file epoch number rows = with_head 1 (new_body epoch number rows)

-- what it says
abbrev pub new_checkpoint : (epoch number : ℕ) → Rows → CheckpointRead
new_checkpoint epoch number rows = record {
  epoch = epoch;
  number = number;
  rows = rows;
  start = 33 + length (image_of rows);
  records = [];
  gate = 33 + length (image_of rows);
}

-- what stands in front of a journal: the fields, and an image, which may be one of before there was the class CDT
abbrev pub with_image : (epoch number : ℕ) → (image : List ℕ) → List ℕ
with_image epoch number image = with_head 1 (fields epoch number (length image) ++ image)

-- what a file says of whose image these rows are read, and behind which these records stand from that place on
abbrev pub with_records : (epoch number : ℕ) → Rows → (start : ℕ) → (records : List (List ℕ)) → CheckpointRead
with_records epoch number rows start records = record {
  epoch = epoch;
  number = number;
  rows = rows;
  start = start;
  records = records;
  gate = start + length (spelled records);
}

-- What a file may say: a checkpoint that is written as such, with the places that follow of its image and its records.
-- The image is that of the rows, or that of before there was the class CDT.
pub record IsCheckpoint (read : CheckpointRead) : Type 0 where
  pub some : 0 < read.epoch
  pub epoch : read.epoch < 2 ^ 64
  pub number : read.number ≤ 2 ^ 62
  pub stored : IsStored read.rows
  pub image : List ℕ
  pub image_is : AreImageOf image read.rows
  pub read_as : rows_of image ≡ Ok read.rows
  pub size : length image < 2 ^ 64
  pub start : read.start ≡ 33 + length image
  pub fits : read.gate < 2 ^ 28
  pub is : read ≡ with_records read.epoch read.number read.rows read.start read.records

-- A file counts with an epoch, beside those that have a lower one.
pub record Counts (epoch : ℕ) (file : List ℕ) : Type 0 where
  pub formatted : is_formatted file ≡ true
  pub opened : head_is_open file ≡ true
  pub epoch_is : epoch_of file ≡ epoch

-- What was read is held: the fields, the image and the records, in a file that isn't too long.
pub record IsHeld (read : CheckpointRead) (file : List ℕ) : Type 0 where
  pub lawful : IsCheckpoint read
  pub counts : Counts read.epoch file
  pub reads : ReadsAs (with_image read.epoch read.number lawful.image) read.records file
  pub short : length file ≤ 2 ^ 28

-- ---- one disk

-- A disk on which a checkpoint may be written: its file begins as it has to, and nothing is in doubt.
pub record IsIdle (moment : Moment) : Type 0 where
  pub formatted : is_formatted moment.bytes ≡ true
  pub durable : moment ≡ durable moment.bytes

-- A file that doesn't count, whatever the other says: its head gate is closed.
pub record IsClosed (file : List ℕ) : Type 0 where
  pub formatted : is_formatted file ≡ true
  pub closed : head_is_open file ≡ false

-- A file that ends with its head gate, or before it: it has no epoch.
pub record IsBare (file : List ℕ) : Type 0 where
  pub formatted : is_formatted file ≡ true
  pub ends : length file ≤ 9

-- the head gate is there, and closed: such a file is all that a disk holds
pub record HoldsClosed (moment : Moment) : Type 0 where
  pub idle : IsIdle moment
  pub gate : 9 ≤ length moment.bytes
  pub closed : head_is_open moment.bytes ≡ false

-- the same with these bytes from place 9 on
pub record HoldsBody (body : List ℕ) (moment : Moment) : Type 0 where
  pub held : HoldsClosed moment
  pub is : drop 9 moment.bytes ≡ body

-- What a crash leaves of a file that ends before its head gate, while that is written: one that is bare.
abbrev pub IsGating : (before file : List ℕ) → Type 0
IsGating before file = (length before ≤ 8) × IsBare file

-- What a crash leaves while the head gate is closed: the file as it was, or one that is closed; or, where there was no
-- head gate, one that is bare.
abbrev pub IsClosing : (before file : List ℕ) → Type 0
IsClosing before file = (file ≡ before) ⊎ IsClosed file ⊎ IsGating before file

-- What a crash leaves while the head gate is opened: a file that is closed, or the one with these bytes whose gate is
-- open.
abbrev pub IsOpening : (body file : List ℕ) → Type 0
IsOpening body file = IsClosed file ⊎ (file ≡ with_head 1 body)

-- What a crash leaves at every moment: the file as it was, one that is closed, or, where there was no head gate, bare,
-- or the new one, whole.
abbrev pub IsOneOf : (before new file : List ℕ) → Type 0
IsOneOf before new file = IsClosing before file ⊎ (file ≡ new)

-- ---- two disks

-- the files in their order, where the first of these is that on the given side
abbrev pub first_of : Side → (file other : List ℕ) → List ℕ
first_of First file other = file
first_of Second file other = other

abbrev pub second_of : Side → (file other : List ℕ) → List ℕ
second_of First file other = other
second_of Second file other = file

-- what this file says on its side beside the other
abbrev pub said_beside : Side → (file other : List ℕ) → Result CheckpointRead CheckpointFault
said_beside side file other = said (first_of side file other) (second_of side file other)

-- The other file counts beside this one, and its epoch, which isn't 0, is below the new one.
pub record CountsBeside (side : Side) (file live : List ℕ) (epoch : ℕ) : Type 0 where
  pub formatted : is_formatted live ≡ true
  pub opened : head_is_open live ≡ true
  pub some : 0 < epoch_of live
  pub below : epoch_of live < epoch
  pub says : said_beside side file live ≡ contents live

-- Beside the file that counted a file says what that one says, or a new checkpoint.
abbrev pub SaysEither : Side → (live : List ℕ) → CheckpointRead → (file : List ℕ) → Type 0
SaysEither side live new file = (said_beside side file live ≡ contents live) ⊎ (said_beside side file live ≡ Ok new)
