-- What the workers of decks gave, each by its own contract.
use Rattle.std.specs.Prelude.{◌≡◌, ◌<◌, ◌≤◌, ℕ, suc, List, [], ◌∷◌, Option}
use Rattle.desk_rules.specs.Position.{Position}
use Rattle.command_history.specs.declared.events.Event.{Event}
use Rattle.command_history.specs.Events.{Extends}
use Rattle.racroute.specs.Core.{Passing}
use Rattle.statements.specs.declared.issuer.Issuing.{Issuing}
use Rattle.statements.specs.declared.status.Status.{Status}
use Rattle.statements.specs.Status.{code_of}
use Rattle.racf_workers.specs.Deck.{Gives}
use Rattle.racf_threads.specs.Outputs.{new_pass}
use Rattle.racf_threads.specs.Together.{Worked, ReadFailed, WriteFailed, HasStopped}

-- What the worker of a deck gave with a new pass, which has counted `back` since; its caller saw a beginning of the
-- whole, and its status tells a fault of a disk, or is greater.
pub record DeckGave (base : Position) (issuing : Issuing) (whole : List Event) (deck : ℕ) (back : Passing) (read_failed write_failed : Type 0) (status : Status) (source left sunk now : Option (List ℕ)) : Type 0 where
  pub seen : List Event
  pub gives : Gives base issuing [] seen (new_pass deck) back read_failed write_failed status source left sunk now
  pub later : Extends seen whole
  pub told : 0 < back.faults → 20 ≤ code_of status

module _ {I K : Type 0} (left : I → Option (List ℕ)) (reads : I → ℕ) (taken : K → Option (List ℕ)) (writes : K → ℕ) (base : Position) (issuing : Issuing) where
  -- the same of decks, which number from this one on, each with its pass
  abbrev pub DecksGave : (whole : List Event) → (deck : ℕ) → List (Worked I K) → (backs : List Passing) → Type 0
  DecksGave whole deck [] [] = Unit {0}
  DecksGave whole deck [] (back ∷ backs) = ⊥
  DecksGave whole deck (w ∷ workers) [] = ⊥
  DecksGave whole deck (w ∷ workers) (back ∷ backs) =
      DeckGave base issuing whole deck back (ReadFailed left reads taken writes base issuing w) (WriteFailed left reads taken writes base issuing w) w.status (left w.given.0) (left w.back.0) (taken w.given.1) (taken w.back.1)
      × HasStopped left reads taken writes base issuing w × (w.faults ≡ back.faults) × DecksGave whole (suc deck) workers backs
