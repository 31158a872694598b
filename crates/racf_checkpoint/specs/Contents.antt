-- What the files of two disks say.
use Rattle.std.specs.Prelude.{ℕ, ◌≡◌, ◌⊎◌, List, [], ◌∷◌, ◌++◌, Result, Ok, Err}
use Rattle.racf_outside.specs.Causes.{Rose}
use Rattle.racf_journal.specs.declared.fault.JournalFault.{JournalFault}
use Rattle.racf_journal.specs.declared.fault.JournalFault.TheVariants as journal
use Rattle.checkpoint_disks.specs.declared.fault.CheckpointFault.{CheckpointFault}
use Rattle.checkpoint_disks.specs.declared.fault.CheckpointFault.TheVariants as checkpoint
use Rattle.checkpoint_disks.specs.Files.{CheckpointRead}
use Rattle.checkpoint_disks.specs.Counting.{said}
use Rattle.checkpoint_disks.specs.Compacting.{with_records}
use Rattle.racf_checkpoint.specs.declared.fault.StoreFault.{StoreFault}
use Rattle.racf_checkpoint.specs.declared.fault.StoreFault.TheVariants as fault

-- a fault of a checkpoint, as one of the store
abbrev pub checkpoint_fault : CheckpointFault → StoreFault
checkpoint_fault checkpoint.DiskFault = fault.DiskFault
checkpoint_fault checkpoint.NotFormatted = fault.NotFormatted
checkpoint_fault (checkpoint.Damaged place) = fault.Damaged place
checkpoint_fault checkpoint.NoMemory = fault.NoMemory

-- a fault of the journal, as one of the store
abbrev pub journal_fault : JournalFault → StoreFault
journal_fault journal.DiskFault = fault.DiskFault
journal_fault journal.NotFormatted = fault.NotFormatted
journal_fault (journal.Damaged place) = fault.Damaged place
journal_fault journal.Full = fault.Full
journal_fault journal.NoMemory = fault.NoMemory

-- what was read, or the fault
abbrev pub as_stored : Result CheckpointRead CheckpointFault → Result CheckpointRead StoreFault
as_stored (Ok read) = Ok read
as_stored (Err why) = Err (checkpoint_fault why)

-- What two files say: the checkpoint of the one that counts, with the records behind it; or why they say nothing.
abbrev pub contents : (first second : List ℕ) → Result CheckpointRead StoreFault
contents first second = as_stored (said first second)

-- two files say this checkpoint and its records
abbrev pub Says : CheckpointRead → (first second : List ℕ) → Type 0
Says kept first second = contents first second ≡ Ok kept

-- the same checkpoint, and one record more
abbrev pub and_record : CheckpointRead → (next : List ℕ) → CheckpointRead
and_record kept next = with_records kept.epoch kept.number kept.rows kept.start (kept.records ++ next ∷ [])

-- two files say the one or the other
abbrev pub SaysEither : (kept next : CheckpointRead) → (first second : List ℕ) → Type 0
SaysEither kept next first second = Says kept first second ⊎ Says next first second

-- A call fails for the fault that is what the files say, for a fault of a disk, or for want of memory.
abbrev pub Refuses : StoreFault → (first second : List ℕ) → Type 0
Refuses why first second = (contents first second ≡ Err why) ⊎ (why ≡ fault.DiskFault) ⊎ (why ≡ fault.NoMemory)

-- a fault of a disk is answered only where its count rose
abbrev pub IsCaused : (before now : ℕ) → StoreFault → Type 0
IsCaused before now why = why ≡ fault.DiskFault → Rose before now

-- the same of two disks
abbrev pub IsCausedByOne : (first next_first second next_second : ℕ) → StoreFault → Type 0
IsCausedByOne first next_first second next_second why = why ≡ fault.DiskFault → Rose first next_first ⊎ Rose second next_second

-- the faults that an append may have
abbrev pub IsOfAppend : StoreFault → Type 0
IsOfAppend why = (why ≡ fault.DiskFault) ⊎ (why ≡ fault.Full) ⊎ (why ≡ fault.NoMemory)
