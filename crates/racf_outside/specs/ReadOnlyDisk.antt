-- A disk that is only read, as its callers see it: nothing of it is ever in doubt.
use Rattle.std.specs.Prelude.{ℕ, zero, suc, ◌≡◌, List, []}
use Rattle.racf_outside.specs.Disk.{History, goes}
use Rattle.racf_outside.specs.Moments.{durable, synced}

pub record DiskReadOnly : Type 0 where
  pub bytes : List ℕ  -- what a read gives, at every moment
  pub syncs : ℕ  -- how many syncs it did, at most 2^64 - 1
  pub faults : ℕ  -- how many faults it has counted, at most 2^64 - 1

-- so many syncs of a disk that began with these bytes, all of them durable
abbrev pub synced_times : ℕ → List ℕ → History
synced_times zero bytes = record { now = durable bytes; past = [] }
synced_times (suc count) bytes = goes synced (synced_times count bytes)

-- its moments up to now
abbrev pub moments_of : DiskReadOnly → History
moments_of disk = synced_times disk.syncs disk.bytes

-- A call did nothing: the disk is as it was, but for its count of faults.
pub record Unmoved (old new : DiskReadOnly) : Type 0 where
  pub bytes : new.bytes ≡ old.bytes
  pub syncs : new.syncs ≡ old.syncs
