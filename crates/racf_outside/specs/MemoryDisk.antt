-- A disk in memory, as its callers see it: its history is a replay of the calls that it did.
use Rattle.std.specs.Prelude.{ℕ, ◌≡◌, ◌⊎◌, ◌/◌, ◌&&◌, Bool, List, [], ◌∷◌, length, take}
use Rattle.racf_outside.specs.Calls.{CallsMade, is_to_fail}
use Rattle.racf_outside.specs.Causes.{Rose}
use Rattle.racf_outside.specs.Disk.{History, goes}
use Rattle.racf_outside.specs.Moments.{Moment, durable, written, cut_to, synced, reads_as}
use Rattle.racf_outside.specs.declared.memory_disk.Step.{Step}
use Rattle.racf_outside.specs.declared.memory_disk.Step.TheVariants.{Wrote, WroteHalf, Cut, Synced, Lost}

pub record DiskInMemory : Type 0 where
  pub first : List ℕ  -- the bytes that it began with
  pub steps : List Step  -- the calls that it did, in order
  pub calls : CallsMade  -- all calls, those that failed too
  pub doubting : Bool  -- a call that is to fail is done by half

pub record Replay : Type 0 where
  pub history : History  -- the moments up to now
  pub settled : List ℕ  -- what stood at the last sync that succeeded, or in the beginning

-- Behind a write that failed and was done by half: a read gives the front half of its bytes, half a byte counting for
-- none, and a crash may leave whatever it may leave behind the whole write.
abbrev pub half_written : ℕ → List ℕ → Moment → Moment
half_written place bytes moment =
    reads_as (written place (take (length bytes / 2) bytes) moment).bytes (written place bytes moment)

-- What a call makes of the moment before it, where these bytes stood at the last sync. A cut that failed is done like
-- another, for what it cut off is in doubt either way. A sync that failed and lost what was written reads as what stood.
abbrev pub step_of : Step → List ℕ → Moment → Moment
step_of (Wrote place bytes) settled = written place bytes.items
step_of (WroteHalf place bytes) settled = half_written place bytes.items
step_of (Cut end) settled = cut_to end
step_of Synced settled = synced
step_of Lost settled = reads_as settled

-- what stands settled behind a call: at a sync that succeeds what a read gives, and else what stood before
abbrev pub settled_by : Step → Replay → List ℕ
settled_by (Wrote place bytes) replay = replay.settled
settled_by (WroteHalf place bytes) replay = replay.settled
settled_by (Cut end) replay = replay.settled
settled_by Synced replay = replay.history.now.bytes
settled_by Lost replay = replay.settled

-- one call more
abbrev pub takes : Step → Replay → Replay
takes step replay =
    record { history = goes (step_of step replay.settled) replay.history; settled = settled_by step replay }

-- a history that begins with these bytes, all of them durable
abbrev pub begins : List ℕ → Replay
begins bytes = record { history = record { now = durable bytes; past = [] }; settled = bytes }

-- the calls, one after another
abbrev pub replayed : List Step → Replay → Replay
replayed [] replay = replay
replayed (step ∷ steps) replay = replayed steps (takes step replay)

-- its moments up to now
abbrev pub history_of : DiskInMemory → History
history_of disk = (replayed disk.steps (begins disk.first)).history

-- what stood at its last sync that succeeded, or in the beginning
abbrev pub settled_of : DiskInMemory → List ℕ
settled_of disk = (replayed disk.steps (begins disk.first)).settled

-- A call that failed did nothing: the disk is as it was, but for the count of its calls.
pub record DidNothing (old new : DiskInMemory) : Type 0 where
  pub first : new.first ≡ old.first
  pub steps : new.steps ≡ old.steps

-- the call that led from one to the other was to fail, of a disk that does such calls by half
abbrev pub is_doubted : DiskInMemory → DiskInMemory → Bool
is_doubted old new = old.doubting && is_to_fail old.calls.failing new.calls.made

-- A call that was to fail was done by half, which made this of the moment; for want of memory it did nothing.
abbrev pub DidHalf : (Moment → Moment) → DiskInMemory → DiskInMemory → Type 0
DidHalf step old new =
    (history_of new ≡ goes step (history_of old)) ⊎ (DidNothing old new × Rose old.calls.refusals new.calls.refusals)
