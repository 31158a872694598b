-- The stops of a run that walked so far, by what its last call says.
use Rattle.std.proofs.Common.{◌≡◌, ℕ, ◌≤◌, ◌^◌, List, [], inl, inr, sym, subst}
use Rattle.std.specs.Prelude.{Option}
use Rattle.std.specs.Io.KnownBytes.{append_known}
use Rattle.racf_outside.specs.Causes.{Rose}
use Rattle.racf_outside.specs.Reader.{Reader}
use Rattle.statements.specs.declared.stopping.Stop.{Stop}
use Rattle.statements.specs.declared.stopping.Stop.TheVariants as stop
use Rattle.statements.specs.declared.status.Status.{Status}
use Rattle.statements.specs.declared.status.Status.TheVariants.{WriteFault}
use Rattle.statements.specs.Gathering.{IsCutShort}
use Rattle.statements.specs.NextStatement.{Stops}
use Rattle.statements.specs.Stopping.{Ends, stop_status, unless_failed}
use Rattle.statements.specs.Runs.{Machine, Ran}
use Rattle.statements.proofs.Walk.{Walk, Grows, walked_all, walked_to_read_fault, walked_too_long, walked_to_item, walked_to_write_fault}

-- R and W are why a read or a write may fail.
module _ {S I : Type 0} (m : Machine S I) (P : S → Type 0) (R W : Type 0) (source : Option (List ℕ)) (old new : Reader) (slack : ℕ) (s : S) (before now then : Option (List ℕ)) (gathered : List ℕ) (w : Walk m source old slack s before now gathered) (p : P s) (grows : Grows m) (at_most : slack ≤ 1) where
  at_stop : m.input.items [] ≡ [] → (why : Stop) → then ≡ append_known now gathered → Stops m.input why old new → new.passed ≤ 2 ^ 28 → (Rose old.faults new.faults → R) → Ran m P R W (stop_status why (m.has_failed s) (m.has_refused s)) source new.left before then
  at_stop empty stop.End wrote h limit read = walked_all m P R W source new.left old slack s before now then gathered w p new wrote empty h limit
  at_stop empty stop.ReadFault wrote h limit read = walked_to_read_fault m P R W source new.left old slack s before now then gathered w p h.0 new wrote h.1 read
  at_stop empty stop.InputTooLong wrote h limit read = walked_too_long m P R W source new.left old slack s before now then gathered w p h.0 h.1 new wrote h.2
  at_stop empty stop.NoMemory wrote h limit read = walked_to_item m P R W source new.left old slack s before now then gathered w p wrote

  -- what is gathered couldn't be written
  pub cut : W → (status : Status) → IsCutShort gathered now then → status ≡ unless_failed (m.has_failed s) WriteFault → Ran m P R W status source new.left before then
  cut why status short ended =
      subst (λ (x : Status). Ran m P R W x source new.left before then) (sym ended) (walked_to_write_fault m P R W source new.left old slack s before now then gathered w p grows at_most why short)

  -- no item came
  pub stopped : m.input.items [] ≡ [] → (why : Stop) (status : Status) → Stops m.input why old new → new.passed ≤ 2 ^ 28 → (Rose old.faults new.faults → R) → Ends W why (m.has_failed s) (m.has_refused s) status gathered now then → Ran m P R W status source new.left before then
  stopped empty why status h limit read (inl wrote) =
      subst (λ (x : Status). Ran m P R W x source new.left before then) (sym wrote.0) (at_stop empty why wrote.1 h limit read)
  stopped empty why status h limit read (inr fails) = cut fails.1 status fails.2 fails.0

  -- an item was not answered
  pub unanswered : (status : Status) → Ends W stop.NoMemory (m.has_failed s) (m.has_refused s) status gathered now then → Ran m P R W status source new.left before then
  unanswered status (inl wrote) =
      subst (λ (x : Status). Ran m P R W x source new.left before then) (sym wrote.0) (walked_to_item m P R W source new.left old slack s before now then gathered w p wrote.1)
  unanswered status (inr fails) = cut fails.1 status fails.2 fails.0
