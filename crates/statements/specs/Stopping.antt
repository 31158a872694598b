-- How a run ends.
use Rattle.std.specs.Prelude.{◌≡◌, ◌⊎◌, ℕ, Bool, Option, List, if◌then◌else◌}
use Rattle.std.specs.Io.KnownBytes.{append_known}
use Rattle.statements.specs.declared.stopping.Stop.{Stop}
use Rattle.statements.specs.declared.stopping.Stop.TheVariants as stop
use Rattle.statements.specs.declared.status.Status.{Status}
use Rattle.statements.specs.declared.status.Status.TheVariants.{ReadFault, WriteFault, DiskFault, NoMemory, InputTooLong}
use Rattle.statements.specs.Gathering.{IsCutShort}
use Rattle.statements.specs.Runs.{whole_status}

-- the status of a run that stops so, where a disk failed or not, and some line was refused or none
abbrev pub unless_failed : (failed : Bool) → Status → Status
unless_failed failed status = if failed then DiskFault else status

abbrev pub stop_status : Stop → (failed refused : Bool) → Status
stop_status stop.End failed refused = whole_status failed refused
stop_status stop.ReadFault failed refused = unless_failed failed ReadFault
stop_status stop.InputTooLong failed refused = InputTooLong
stop_status stop.NoMemory failed refused = NoMemory

-- What is gathered when a run stops is written, and the status is that of the stop; or the write fails, as
-- `write_failed` says, and the status tells that.
abbrev pub Ends : (write_failed : Type 0) → Stop → (failed refused : Bool) → Status → List ℕ → Option (List ℕ) → Option (List ℕ) → Type 0
Ends write_failed stop failed refused status gathered before now =
    ((status ≡ stop_status stop failed refused) × (now ≡ append_known before gathered))
    ⊎ ((status ≡ unless_failed failed WriteFault) × write_failed × IsCutShort gathered before now)
