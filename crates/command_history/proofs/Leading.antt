-- Where a list of events leads, behind one event more.
use Rattle.std.proofs.Common.{◌≡◌, ℕ, Ok, List, [], ◌∷◌, ◌++◌, Option, Some, None, Result, Err, refl, sym, ◌∙◌, ap, subst}
use Rattle.command_fields.specs.declared.fields.CommandFields.{CommandFields}
use Rattle.journal_records.specs.declared.record.CommandRecord.{CommandRecord}
use Rattle.desk_rules.specs.Position.{Position, position_behind}
use Rattle.desk_rules.specs.History.{at, IsLegal}
use Rattle.desk_rules.specs.Outcome.{first_of, rules_of, journal_full, number_spent, refusal_of, unless_refused, command_of_text, judged, outcome_in, outcome}
use Rattle.desk_rules.specs.Recovery.{outcome_again}
use Rattle.desk_rules.specs.declared.refusal.Refusal.{Refusal}
use Rattle.desk_rules.proofs.RecoveryLaws.{accepted_leads, judged_parts}
use Rattle.command_history.specs.declared.events.Accepted.{Accepted}
use Rattle.command_history.specs.declared.events.Event.{Event}
use Rattle.command_history.specs.declared.events.Event.TheVariants.{Added, Ended}
use Rattle.command_history.proofs.Marks.{entries_added, entries_push}
use Rattle.command_history.specs.Events.{entries_of}
use Rattle.command_history.specs.Reached.{record_of, with_record, records_of, reached, AreLegal}

-- behind one record more
at_more : (base : Position) (history : List CommandRecord) (given : CommandRecord) → at base (history ++ given ∷ []) ≡ position_behind (at base history) given
at_more base [] given = refl
at_more base (first ∷ history) given = at_more (position_behind base first) history given

with_more : (one : Option CommandRecord) (history more : List CommandRecord) → with_record one (history ++ more) ≡ with_record one history ++ more
with_more None history more = refl
with_more (Some given) history more = refl

records_more : (entries : List Accepted) (entry : Accepted) (given : CommandRecord) → record_of entry ≡ Some given
    → records_of (entries ++ entry ∷ []) ≡ records_of entries ++ given ∷ []
records_more [] entry given is = ap (λ (o : Option CommandRecord). with_record o []) is
records_more (first ∷ entries) entry given is =
    ap (λ (l : List CommandRecord). with_record (record_of first) l) (records_more entries entry given is)
    ∙ with_more (record_of first) (records_of entries) (given ∷ [])

pub reached_added : (base : Position) (events : List Event) (entry : Accepted) (given : CommandRecord) → record_of entry ≡ Some given
    → reached base (events ++ Added entry ∷ []) ≡ position_behind (reached base events) given
reached_added base events entry given is =
    unfold reached in
    ap (λ (l : List Accepted). at base (records_of l)) (entries_added events entry)
    ∙ (ap (λ (l : List CommandRecord). at base l) (records_more (entries_of events) entry given is)
    ∙ at_more base (records_of (entries_of events)) given)

pub reached_ended : (base : Position) (events : List Event) (doubt : Option Accepted) → reached base (events ++ Ended doubt ∷ []) ≡ reached base events
reached_ended base events doubt = unfold reached in ap (λ (l : List Accepted). at base (records_of l)) (entries_push events doubt)

pub reached_none : (base : Position) → reached base [] ≡ base
reached_none base = unfold reached in refl

-- ---- the journal's room

room_none : (rules room spent : Option Refusal) → first_of (rules ∷ room ∷ spent ∷ []) ≡ None → room ≡ None
room_none (Some why) room spent h = cc
room_none None (Some why) spent h = cc
room_none None None spent h = refl

room_at : (position : Position) (id : List ℕ) (group : Option (List ℕ)) (given : CommandRecord) (command : Result CommandFields Refusal)
    → unless_refused command (judged (refusal_of position.gate position.image.generation position.image.state.rows) position.image.state.rows id group) ≡ Ok given
    → journal_full position.gate given ≡ None
room_at position id group given (Ok command) h =
    let rows = position.image.state.rows in
    let number = position.image.generation in
    let none = (judged_parts (refusal_of position.gate number rows) rows id group command given h).2 in
    room_none (rules_of rows given) (journal_full position.gate given) (number_spent number) none
room_at position id group given (Err why) h = cc

-- The journal has room for the record of a command that is accepted.
accepted_room : (position : Position) (id : List ℕ) (group : Option (List ℕ)) (text : List ℕ) (given : CommandRecord) → outcome position id group text ≡ Ok given
    → journal_full position.gate given ≡ None
unfolding outcome_in
accepted_room position id group text given h = room_at position id group given (command_of_text id text) h

-- ---- legal entries

abbrev AcceptedAt : Position → CommandRecord → Type 0
AcceptedAt position given = (outcome_again position given ≡ Ok given) × (journal_full position.gate given ≡ None)

legal_more : (base : Position) (entries : List Accepted) (entry : Accepted) (given : CommandRecord) → AreLegal base entries → record_of entry ≡ Some given
    → AcceptedAt (at base (records_of entries)) given → AreLegal base (entries ++ entry ∷ [])
legal_more base [] entry given legal is accepted = (given, is, accepted.0, accepted.1, tt)
legal_more base (first ∷ entries) entry given legal is accepted =
    let P : Option CommandRecord → Type 0 = λ one. AcceptedAt (at base (with_record one (records_of entries))) given in
    (legal.0, legal.1, legal.2, legal.3, legal_more (position_behind base legal.0) entries entry given legal.4 is (subst P legal.1 accepted))

pub legal_added : (base : Position) (events : List Event) (entry : Accepted) (given : CommandRecord) (id : List ℕ) (group : Option (List ℕ)) (text : List ℕ)
    → AreLegal base (entries_of events) → record_of entry ≡ Some given → outcome (reached base events) id group text ≡ Ok given
    → AreLegal base (entries_of (events ++ Added entry ∷ []))
legal_added base events entry given id group text legal is accepted =
    let again : AcceptedAt (at base (records_of (entries_of events))) given =
    unfold reached in (accepted_leads (reached base events) id group text given accepted, accepted_room (reached base events) id group text given accepted) in
    subst (λ (l : List Accepted). AreLegal base l) (sym (entries_added events entry)) (legal_more base (entries_of events) entry given legal is again)

pub legal_ended : (base : Position) (events : List Event) (doubt : Option Accepted) → AreLegal base (entries_of events) → AreLegal base (entries_of (events ++ Ended doubt ∷ []))
legal_ended base events doubt legal = subst (λ (l : List Accepted). AreLegal base l) (sym (entries_push events doubt)) legal

pub legal_history : (base : Position) (entries : List Accepted) → AreLegal base entries → IsLegal base (records_of entries)
legal_history base [] legal = tt
legal_history base (entry ∷ entries) legal =
    subst (λ (one : Option CommandRecord). IsLegal base (with_record one (records_of entries))) (sym legal.1)
    (legal.2, legal_history (position_behind base legal.0) entries legal.4)
