-- The entry of a command that is accepted goes on from where the events lead.
use Rattle.std.proofs.Common.{◌≡◌, ℕ, List, [], ◌∷◌, ◌++◌, Option, Some, Result, Ok, Err, refl, sym, ◌∙◌, ap}
use Rattle.command_parser.specs.Canonical.{canonical, IsWritten}
use Rattle.journal_records.specs.declared.record.CommandRecord.{CommandRecord}
use Rattle.desk_rules.specs.declared.refusal.Refusal.{Refusal}
use Rattle.desk_rules.specs.Position.{Position}
use Rattle.desk_rules.specs.Outcome.{outcome}
use Rattle.desk_rules.specs.Made.{Made, made_at, made_of_outcome, installed}
use Rattle.command_history.specs.declared.events.Accepted.{Accepted}
use Rattle.command_history.specs.declared.events.Event.{Event}
use Rattle.command_history.specs.declared.events.Event.TheVariants.{Added}
use Rattle.command_history.specs.Events.{entries_of}
use Rattle.command_history.specs.Reached.{reached, record_of, AreLegal}
use Rattle.command_history.proofs.Leading.{legal_added, reached_added}

-- ---- what a desk makes of it

module _
    (base : Position)
    (events : List Event)
    (entry : Accepted)
    (made : Made)
    (id : List ℕ)
    (group : Option (List ℕ))
    (text : List ℕ)
    (written : (given : CommandRecord) → outcome (reached base events) id group text ≡ Ok given → IsWritten given.command (canonical given.command))
    (recorded : (given : CommandRecord) → IsWritten given.command (canonical given.command) → entry.issuer ≡ given.issuer → entry.text ≡ canonical given.command → record_of entry ≡ Some given)
    (legal : AreLegal base (entries_of events))
    (issuer : entry.issuer ≡ made.issuer)
    (same : entry.text ≡ made.text)
  where
    goes_on_with : (judged : Result CommandRecord Refusal) → outcome (reached base events) id group text ≡ judged → made_of_outcome (reached base events).image judged ≡ Ok made
        → AreLegal base (entries_of (events ++ Added entry ∷ [])) × (reached base (events ++ Added entry ∷ []) ≡ installed (reached base events) made)
    goes_on_with (Ok given) is h =
        let at : made_at (reached base events).image given ≡ made = cc in
        let has : record_of entry ≡ Some given =
        recorded given (written given is) (issuer ∙ sym (ap (λ (m : Made). m.issuer) at)) (same ∙ sym (ap (λ (m : Made). m.text) at)) in (
          legal_added base events entry given id group text legal has is,
          reached_added base events entry given has ∙ ap (installed (reached base events)) at,
        )
    goes_on_with (Err why) is h = cc

    pub goes_on : made_of_outcome (reached base events).image (outcome (reached base events) id group text) ≡ Ok made
        → AreLegal base (entries_of (events ++ Added entry ∷ [])) × (reached base (events ++ Added entry ∷ []) ≡ installed (reached base events) made)
    goes_on = goes_on_with (outcome (reached base events) id group text) refl
