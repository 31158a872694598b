-- Which of two files counts, and what the two say.
use Rattle.std.specs.Prelude.{ℕ, ◌&&◌, nat_lt, List, Option, Some, None, Result, Err, if◌then◌else◌}
use Rattle.checkpoint_disks.specs.declared.counting.Side.{Side}
use Rattle.checkpoint_disks.specs.declared.counting.Side.TheVariants.{First, Second}
use Rattle.checkpoint_disks.specs.declared.fault.CheckpointFault.{CheckpointFault}
use Rattle.checkpoint_disks.specs.declared.fault.CheckpointFault.TheVariants.{NotFormatted}
use Rattle.checkpoint_disks.specs.declared.reading.Checkpoint.{Checkpoint}
use Rattle.checkpoint_disks.specs.Files.{is_formatted, head_is_open, epoch_of, CheckpointRead, contents}

-- Of the files with an open head gate the one of the greater epoch counts, on equal epochs the first.
abbrev pub which : (first second : List ℕ) → Option Side
which first second =
    if head_is_open first then (if head_is_open second && nat_lt (epoch_of first) (epoch_of second) then Some Second else Some First)
    else (if head_is_open second then Some Second else None)

-- the file on a side
abbrev pub file_on : Side → (first second : List ℕ) → List ℕ
file_on First first second = first
file_on Second first second = second

-- what the file that counts says
abbrev pub counted : (first second : List ℕ) → Option Side → Result CheckpointRead CheckpointFault
counted first second None = Err NotFormatted
counted first second (Some side) = contents (file_on side first second)

-- What two files say: nothing where one of them doesn't begin as it has to, or none counts; else what the one says that
-- counts.
abbrev pub said : (first second : List ℕ) → Result CheckpointRead CheckpointFault
said first second = if is_formatted first && is_formatted second then counted first second (which first second) else Err NotFormatted

-- a checkpoint that was read, as data
abbrev pub as_read : Checkpoint → CheckpointRead
as_read c = record { epoch = c.epoch; number = c.number; rows = c.rows; start = c.start; records = c.records.items; gate = c.gate }
