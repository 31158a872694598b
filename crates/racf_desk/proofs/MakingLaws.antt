-- What is made of an accepted command is the position behind it.
use Rattle.std.proofs.Common.{◌≡◌, ℕ, ◌+◌, ◌≤◌, ◌<◌, Bool, true, false, cond, not, List, [], ◌∷◌, Some, None, refl, ◌∙◌, ap, arith}
use Rattle.std.specs.Prelude.{nat_le, IsFalse}
use Rattle.std.specs.List.{list_all}
use Rattle.std.proofs.lemmas.Bool.{leb-false, and_parts}
use Rattle.racf_profiles.specs.declared.rows.Rows.{Rows}
use Rattle.racf_profiles.specs.declared.edits.Edit.{Edit}
use Rattle.racf_profiles.specs.declared.edits.Edit.TheVariants.{List as ListCopy, Unlist, DropClass}
use Rattle.racf_profiles.specs.Edits.{changed}
use Rattle.racf_profiles.specs.State.{State, ListedCopy, copies_after, is_of_copies, edited_state, changed_state}
use Rattle.racf_profiles.specs.declared.edits.Change.{Change}
use Rattle.command_fields.specs.declared.issuer.Issuer.{Issuer}
use Rattle.command_fields.specs.declared.fields.CommandFields.{CommandFields}
use Rattle.command_fields.specs.declared.fields.CommandFields.TheVariants as fields
use Rattle.command_parser.specs.Canonical.{canonical}
use Rattle.command_rules.specs.Effects.{step}
use Rattle.command_rules.specs.Edits.{edits_of, edits_copies}
use Rattle.raclist_image.specs.Imaged.{Imaged}
use Rattle.desk_rules.specs.declared.refusal.Refusal.TheVariants as refusal
use Rattle.journal_records.specs.declared.record.CommandRecord.{CommandRecord}
use Rattle.journal_records.specs.Spelling.{spelled}
use Rattle.desk_rules.specs.Outcome.{most_number, number_spent}
use Rattle.desk_rules.specs.Position.{copies_behind, state_behind}
use Rattle.desk_rules.specs.Made.{Made, made_at}

-- the numbers aren't spent
pub unspent : (number : ℕ) → number_spent number ≡ None → nat_le most_number number ≡ false
unspent number h = by (nat_le most_number number) refl h
  where
    by : (b : Bool) → nat_le most_number number ≡ b → cond b (Some refusal.NumberSpent) None ≡ None → nat_le most_number number ≡ false
    by true is h = cc
    by false is h = is

-- the number behind it is one that there is
pub within : (number : ℕ) → nat_le most_number number ≡ false → number + 1 ≤ most_number
within number h = let below : number < most_number = leb-false most_number number h in omega arith

-- edits that list, unlist and drop no class leave the listed copies
copies-kept : (edits : List Edit) (state : State) → list_all (λ (edit : Edit). not (is_of_copies edit)) edits ≡ true → (changed_state edits state).copies ≡ state.copies
copies-kept [] state h = refl
copies-kept (edit ∷ edits) state h =
    let parts = and_parts (not (is_of_copies edit)) (list_all (λ (other : Edit). not (is_of_copies other)) edits) h in
    copies-kept edits (edited_state edit state) parts.1 ∙ kept edit parts.0
  where
    kept : (e : Edit) → not (is_of_copies e) ≡ true → copies_after e state ≡ state.copies
    kept (ListCopy name) unlisted = cc
    kept (Unlist name) unlisted = cc
    kept (DropClass name) unlisted = cc
    kept other unlisted = refl

copies-behind : (issuer : Issuer) (command : CommandFields) (edits : List Edit) (state : State) → edits ≡ edits_of issuer command state.rows
    → (IsFalse (edits_copies command) → list_all (λ (edit : Edit). not (is_of_copies edit)) edits ≡ true) → (changed_state edits state).copies ≡ copies_behind command state
copies-behind issuer (fields.SetRopts c) edits state are others = ap (λ (es : List Edit). (changed_state es state).copies) are
copies-behind issuer (fields.RDelete c) edits state are others = ap (λ (es : List Edit). (changed_state es state).copies) are
copies-behind issuer command edits state are others = copies-kept edits state (others refl)

-- the state behind the edits of a command
pub behind : (given : CommandRecord) (edits : List Edit) (state : State) → edits ≡ edits_of given.issuer given.command state.rows → changed edits state.rows ≡ step given.issuer given.command state.rows
    → (changed_state edits state).rows ≡ changed edits state.rows → (IsFalse (edits_copies given.command) → list_all (λ (edit : Edit). not (is_of_copies edit)) edits ≡ true)
    → changed_state edits state ≡ state_behind state given
behind given edits state are makes law others =
    ap (λ (rows : Rows). record { rows = rows; copies = (changed_state edits state).copies }) (law ∙ makes)
    ∙ ap (λ (copies : List ListedCopy). record { rows = step given.issuer given.command state.rows; copies = copies }) (copies-behind given.issuer given.command edits state are others)

-- what is made, field by field
pub made_is : (position : Imaged) (given : CommandRecord) (number : ℕ) (text entry : List ℕ) (change : Change) (image : Imaged)
    → number ≡ position.generation + 1
    → text ≡ canonical given.command
    → entry ≡ spelled given
    → change.edits ≡ edits_of given.issuer given.command position.state.rows
    → image ≡ record { state = state_behind position.state given; generation = number }
    → record { number = number; issuer = given.issuer; text = text; entry = entry; change = change; behind = image } ≡ made_at position given
made_is position given number text entry change image next canon spells edits behind =
    let mk : ℕ → List ℕ → List ℕ → List Edit → Imaged → Made = λ n t e es im. record { number = n; issuer = given.issuer; text = t; entry = e; change = record { edits = es }; behind = im } in
    let after : ℕ → Imaged = λ n. record { state = state_behind position.state given; generation = n } in
    ap (mk number text entry change.edits) behind
    ∙ ap (λ n. mk n text entry change.edits (after n)) next
    ∙ ap (λ t. mk (position.generation + 1) t entry change.edits (after (position.generation + 1))) canon
    ∙ ap (λ e. mk (position.generation + 1) (canonical given.command) e change.edits (after (position.generation + 1))) spells
    ∙ ap (λ es. mk (position.generation + 1) (canonical given.command) (spelled given) es (after (position.generation + 1))) edits
