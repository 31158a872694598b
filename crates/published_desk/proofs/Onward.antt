-- What a desk makes goes on from what is published.
use Rattle.std.proofs.Common.{◌≡◌, ℕ, List, [], ◌∷◌, ◌++◌, Option, Ok, ap, sym, subst, ◌∙◌}
use Rattle.desk_rules.specs.Position.{Position}
use Rattle.desk_rules.specs.Outcome.{outcome}
use Rattle.desk_rules.specs.Made.{Made, made_of_outcome, installed}
use Rattle.command_history.specs.declared.events.Accepted.{Accepted}
use Rattle.command_history.specs.declared.events.Event.{Event}
use Rattle.command_history.specs.declared.events.Event.TheVariants.{Added}
use Rattle.command_history.specs.Events.{entries_of}
use Rattle.command_history.specs.Reached.{reached, AreLegal}

abbrev pub GoesOn : Type 0
GoesOn = (base : Position) (events : List Event) (entry : Accepted) (made : Made) (id : List ℕ) (group : Option (List ℕ)) (text : List ℕ)
    → AreLegal base (entries_of events)
    → made_of_outcome (reached base events).image (outcome (reached base events) id group text) ≡ Ok made
    → entry.issuer ≡ made.issuer → entry.text ≡ made.text
    → AreLegal base (entries_of (events ++ Added entry ∷ [])) × (reached base (events ++ Added entry ∷ []) ≡ installed (reached base events) made)

-- the same at a desk that stands there
pub onward : GoesOn → (base position : Position) (events : List Event) (entry : Accepted) (made : Made) (id : List ℕ) (group : Option (List ℕ)) (text : List ℕ)
    → position ≡ reached base events
    → AreLegal base (entries_of events)
    → made_of_outcome position.image (outcome position id group text) ≡ Ok made
    → entry.issuer ≡ made.issuer → entry.text ≡ made.text
    → AreLegal base (entries_of (events ++ Added entry ∷ [])) × (installed position made ≡ reached base (events ++ Added entry ∷ []))
onward law base position events entry made id group text there legal judged issuer same =
    let at : made_of_outcome (reached base events).image (outcome (reached base events) id group text) ≡ Ok made =
    subst (λ (p : Position). made_of_outcome p.image (outcome p id group text) ≡ Ok made) there judged in
    let both = law base events entry made id group text legal at issuer same in
    (both.0, ap (λ (p : Position). installed p made) there ∙ sym both.1)
