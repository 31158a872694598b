-- What one worker did, put together of what its calls ensure.
use Rattle.std.proofs.Common.{◌≡◌, ◌≢◌, ◌<◌, ◌≤◌, ℕ, true, List, Some, None, refl, sym, subst}
use Rattle.std.specs.Prelude.{Option, is_some}
use Rattle.racf_outside.specs.Causes.{Rose}
use Rattle.desk_rules.specs.Position.{Position}
use Rattle.command_history.specs.declared.events.Event.{Event}
use Rattle.command_history.specs.Events.{failed_of}
use Rattle.raclist_snapshots.specs.Publishing.{Seeing}
use Rattle.racroute.specs.Core.{Passing}
use Rattle.statements.specs.declared.issuer.Issuing.{Issuing}
use Rattle.statements.specs.declared.status.Status.{Status}
use Rattle.statements.specs.declared.status.Status.TheVariants as statuses
use Rattle.statements.specs.Status.{code_of}
use Rattle.racf_workers.specs.Deck.{Gives}
use Rattle.racf_workers.specs.RequestFile.{Answers}
use Rattle.racf_threads.specs.Outputs.{StopsFor}
use Rattle.racf_threads.specs.Working.{Working, Gave, Answered, WorkedOn, HasWorked}

module _ {I K : Type 0} (left : I → Option (List ℕ)) (reads : I → ℕ) (taken : K → Option (List ℕ)) (writes : K → ℕ) (base : Position) (issuing : Issuing) where
  by_kind : (old new : Working I K) (pass : Option Passing) (files : Option (I × K)) → old.pass ≡ pass → old.files ≡ files → WorkedOn left reads taken writes base issuing pass files old new → HasWorked left reads taken writes base issuing old new
  unfolding HasWorked
  by_kind old new pass files pass_is files_are worked =
      subst (λ (p : Option Passing). WorkedOn left reads taken writes base issuing p old.files old new) (sym pass_is)
      (subst (λ (f : Option (I × K)). WorkedOn left reads taken writes base issuing pass f old new) (sym files_are) worked)

  -- who has nothing to work
  pub idle : (old new : Working I K) → old.files ≡ None → HasWorked left reads taken writes base issuing old new
  idle old new none = by_kind old new old.pass None refl none tt

  pub gave : (old new : Working I K) (pass counted : Passing) (rest : Option Passing) (given back : I × K) (seen : List Event) (caller : Seeing) (status : Status)
      → old.pass ≡ Some pass → old.files ≡ Some given → old.caller.events ≡ seen
      → new ≡ record { caller = caller; pass = rest; end = Some counted; files = Some back; status = status }
      → Gives base issuing seen caller.events pass counted (Rose (reads given.0) (reads back.0)) (Rose (writes given.1) (writes back.1)) status (left given.0) (left back.0) (taken given.1) (taken back.1)
      → (status ≡ statuses.DiskFault → is_some (failed_of caller.events) ≡ true) → (pass.faults < counted.faults → 20 ≤ code_of status)
      → StopsFor status (left given.0) (reads given.0) (reads back.0) (writes given.1) (writes back.1) → HasWorked left reads taken writes base issuing old new
  gave old new pass counted rest given back seen caller status pass_is files_are seen_is new_is gives failed told stops =
      let done : Working I K = record { caller = caller; pass = rest; end = Some counted; files = Some back; status = status } in
      let G : Working I K → Type 0 = λ w. Gave left reads taken writes base issuing pass given old w in
      let at_done : G done =
      record { back = back; counted = counted; files_are = refl; end_is = refl; failed = failed; told = told; gives = rw seen_is gives; stops = stops } in
      by_kind old new (Some pass) (Some given) pass_is files_are (subst G (sym new_is) at_done)

  pub answered : (old new : Working I K) (rest end : Option Passing) (given back : I × K) (seen : List Event) (caller : Seeing) (status : Status)
      → old.pass ≡ None → old.files ≡ Some given → old.caller.events ≡ seen → old.end ≡ end
      → new ≡ record { caller = caller; pass = rest; end = end; files = Some back; status = status }
      → Answers base seen caller.events (Rose (reads given.0) (reads back.0)) (Rose (writes given.1) (writes back.1)) status (left given.0) (left back.0) (taken given.1) (taken back.1)
      → status ≢ statuses.DiskFault
      → StopsFor status (left given.0) (reads given.0) (reads back.0) (writes given.1) (writes back.1) → HasWorked left reads taken writes base issuing old new
  answered old new rest end given back seen caller status pass_is files_are seen_is end_was new_is answers failed stops =
      let done : Working I K = record { caller = caller; pass = rest; end = end; files = Some back; status = status } in
      let G : Working I K → Type 0 = λ w. Answered left reads taken writes base issuing given old w in
      let at_done : G done =
      record { back = back; files_are = refl; end_is = sym end_was; failed = failed; answers = rw seen_is answers; stops = stops } in
      by_kind old new None (Some given) pass_is files_are (subst G (sym new_is) at_done)
