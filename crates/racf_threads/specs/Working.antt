-- The workers of a run, before they work and behind it.
use Rattle.std.specs.Prelude.{◌≡◌, ◌≢◌, ◌<◌, ◌≤◌, ℕ, true, List, [], ◌∷◌, Option, Some, None, is_some}
use Rattle.racf_outside.specs.Causes.{Rose}
use Rattle.desk_rules.specs.Position.{Position}
use Rattle.command_history.specs.Events.{failed_of}
use Rattle.raclist_snapshots.specs.Publishing.{Seeing}
use Rattle.racroute.specs.Core.{Passing}
use Rattle.statements.specs.declared.issuer.Issuing.{Issuing}
use Rattle.statements.specs.declared.status.Status.{Status}
use Rattle.statements.specs.declared.status.Status.TheVariants as statuses
use Rattle.statements.specs.Status.{code_of}
use Rattle.racf_workers.specs.Deck.{Gives}
use Rattle.racf_workers.specs.RequestFile.{Answers}
use Rattle.racf_threads.specs.Outputs.{StopsFor}

-- A worker: what its caller has seen; the pass of a deck that goes on, and what is left of it where the deck has ended;
-- a source with its sink; and how it ended.
pub record Working (I K : Type 0) : Type 0 where
  pub caller : Seeing
  pub pass : Option Passing
  pub end : Option Passing
  pub files : Option (I × K)
  pub status : Status

-- one that has done nothing: where that stays so, memory was wanting
abbrev pub new_worker : {I K : Type 0} → Option Passing → I × K → Working I K
new_worker pass given =
    record { caller = record { events = []; learned = 0 }; pass = pass; end = None; files = Some given; status = statuses.NoMemory }

-- The workers of these sources with their sinks: decks as long as there are passes, then request files.
abbrev pub new_workers : {I K : Type 0} → List Passing → List (I × K) → List (Working I K)
new_workers passes [] = []
new_workers [] (given ∷ others) = new_worker None given ∷ new_workers [] others
new_workers (pass ∷ passes) (given ∷ others) = new_worker (Some pass) given ∷ new_workers passes others

-- `left`, `reads`, `taken` and `writes` are those of sources and sinks, and `issuing` says who gives the commands, as
-- for a whole run.
module _ {I K : Type 0} (left : I → Option (List ℕ)) (reads : I → ℕ) (taken : K → Option (List ℕ)) (writes : K → ℕ) (base : Position) (issuing : Issuing) where
  -- A deck has worked its source, and its pass is handed in. Where a disk failed it, its caller has the final mark, and
  -- its status tells it, or is greater.
  pub record Gave (pass : Passing) (given : I × K) (old new : Working I K) : Type 0 where
    pub back : I × K
    pub counted : Passing
    pub files_are : new.files ≡ Some back
    pub end_is : new.end ≡ Some counted
    pub failed : new.status ≡ statuses.DiskFault → is_some (failed_of new.caller.events) ≡ true
    pub told : pass.faults < counted.faults → 20 ≤ code_of new.status
    pub gives : Gives base issuing old.caller.events new.caller.events pass counted (Rose (reads given.0) (reads back.0)) (Rose (writes given.1) (writes back.1)) new.status (left given.0) (left back.0) (taken given.1) (taken back.1)
    pub stops : StopsFor new.status (left given.0) (reads given.0) (reads back.0) (writes given.1) (writes back.1)

  -- A request file has worked its source.
  pub record Answered (given : I × K) (old new : Working I K) : Type 0 where
    pub back : I × K
    pub files_are : new.files ≡ Some back
    pub end_is : new.end ≡ old.end
    pub failed : new.status ≢ statuses.DiskFault
    pub answers : Answers base old.caller.events new.caller.events (Rose (reads given.0) (reads back.0)) (Rose (writes given.1) (writes back.1)) new.status (left given.0) (left back.0) (taken given.1) (taken back.1)
    pub stops : StopsFor new.status (left given.0) (reads given.0) (reads back.0) (writes given.1) (writes back.1)

  abbrev pub WorkedOn : Option Passing → Option (I × K) → (old new : Working I K) → Type 0
  WorkedOn pass None old new = Unit {0}
  WorkedOn None (Some given) old new = Answered given old new
  WorkedOn (Some pass) (Some given) old new = Gave pass given old new

  -- A worker has worked.
  unfoldable pub HasWorked : (old new : Working I K) → Type 0
  HasWorked old new = WorkedOn old.pass old.files old new
