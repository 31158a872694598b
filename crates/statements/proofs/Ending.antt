-- How a run ends, seen from its beginning.
use Rattle.std.proofs.Common.{◌≡◌, ℕ, ◌≤◌, Bool, List, inl, inr}
use Rattle.std.specs.Prelude.{Option}
use Rattle.racf_outside.specs.Causes.{Rose}
use Rattle.racf_outside.proofs.Rises.{Rose-later}
use Rattle.statements.specs.declared.status.Status.{Status}
use Rattle.statements.specs.declared.stopping.Stop.{Stop}
use Rattle.statements.specs.Stopping.{Ends}

-- A write that failed at the end failed in this run.
pub ends_later : (first before now : ℕ) (why : Stop) (failed refused : Bool) (status : Status) (gathered : List ℕ) (sunk then : Option (List ℕ)) → first ≤ before
    → Ends (Rose before now) why failed refused status gathered sunk then → Ends (Rose first now) why failed refused status gathered sunk then
ends_later first before now why failed refused status gathered sunk then later (inl wrote) = inl wrote
ends_later first before now why failed refused status gathered sunk then later (inr cut) = inr (cut.0, Rose-later first before now later cut.1, cut.2)
