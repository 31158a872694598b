-- What the operands leave in the slots.
use Rattle.std.proofs.Common.{◌≡◌, ◌⊎◌, inl, inr, ℕ, zero, suc, List, [], ◌∷◌, true, Option, None, Some, Ok, Err, refl, subst}
use Rattle.std.specs.Prelude.{slice_set}
use Rattle.command_words.specs.Tokens.{tokens}
use Rattle.command_words.specs.ValuedWords.{ValuedWord, Alone, Valued, Unclosed, Parenthesis, valued_words}
use Rattle.command_values.specs.declared.faults.Syntax.TheVariants as faults
use Rattle.command_values.specs.declared.value_kinds.ValueKind.{ValueKind}
use Rattle.command_values.specs.declared.value_kinds.ValueKind.TheVariants as kinds
use Rattle.command_grammar.specs.declared.table.Operand.{Operand}
use Rattle.command_values.specs.declared.values.Content.{Content}
use Rattle.command_values.specs.declared.values.Content.TheVariants as contents
use Rattle.command_fields.specs.declared.resets.Reset.TheVariants as resets
use Rattle.command_values.specs.declared.values.Scope.{Scope}
use Rattle.command_values.specs.declared.values.Known.{Known}
use Rattle.command_values.specs.Results.{◌>>=◌}
use Rattle.command_values.specs.Values.{value, bare}
use Rattle.command_grammar.specs.Reading.{Slots, row_at, slot_of, operand_at, operands_at, is_generic_kind, no_slots}
use Rattle.command_values.proofs.Outcomes.{bind-ok, pair-ok}
use Rattle.command_values.proofs.ValueLawful.{FitsHere, along-here, value-fits}

-- what stands in a slot while a text is read: a value of its kind, or GENERIC
abbrev pub Holds : Known → ValueKind → Content → Type 0
Holds known k v = (is_generic_kind k ≡ true) ⊎ FitsHere known k v

bare-holds : (at : Scope) (k : ValueKind) (p : ℕ) (v : Content) → bare at k p ≡ Ok v → Holds at.known k v
bare-holds at kinds.Flag p v h = let same : contents.Flag ≡ v = cc in inr (along-here at.known kinds.Flag contents.Flag v same (tt, tt))
bare-holds at kinds.Reset p v h = let same : contents.Reset resets.All ≡ v = cc in inr (along-here at.known kinds.Reset (contents.Reset resets.All) v same (tt, tt))
bare-holds at kinds.Generic p v h = inl refl
bare-holds at kinds.Failures p v h = let same : contents.Failures ≡ v = cc in inr (along-here at.known kinds.Failures contents.Failures v same (tt, tt))
bare-holds at kinds.Id p v h = cc
bare-holds at kinds.Group p v h = cc
bare-holds at kinds.Authority p v h = cc
bare-holds at kinds.Name p v h = cc
bare-holds at kinds.Ids p v h = cc
bare-holds at kinds.Classes p v h = cc
bare-holds at kinds.Level p v h = cc
bare-holds at kinds.Audit p v h = cc
bare-holds at kinds.Class p v h = cc
bare-holds at kinds.Length p v h = cc
bare-holds at kinds.Truth p v h = cc
bare-holds at kinds.ClassNames p v h = cc
bare-holds at kinds.DataSetProfile p v h = cc
bare-holds at kinds.ClassProfile p v h = cc
bare-holds at kinds.AnyProfile p v h = cc
bare-holds at kinds.Whos p v h = cc
bare-holds at kinds.When p v h = cc
bare-holds at kinds.AddedMembers p v h = cc
bare-holds at kinds.DroppedMembers p v h = cc
bare-holds at kinds.LogOptions p v h = cc

-- operands
abbrev pub HoldsAll : Known → List Operand → Slots → Type 0
HoldsAll known [] [] = Unit {0}
HoldsAll known (o ∷ os) (None ∷ ss) = HoldsAll known os ss
HoldsAll known (o ∷ os) (Some v ∷ ss) = Holds known o.kind v × HoldsAll known os ss
HoldsAll known os ss = ⊥

operand-holds : (at : Scope) (rows : List Operand) (slots : Slots) (i : ValuedWord) (k : ℕ) (v : Content) → operand_at at rows slots i ≡ Ok (k, v) → Holds at.known (row_at rows k).kind v
operand-holds at rows slots (Alone p w) k v h =
    let slot = bind-ok (slot_of rows slots p w) (λ k. bare at (row_at rows k).kind p >>= λ v. Ok (k, v)) (k, v) h in
    let read = bind-ok (bare at (row_at rows slot.0).kind p) (λ v. Ok (slot.0, v)) (k, v) slot.2 in
    let pair = pair-ok slot.0 k read.0 v read.2 in
    let row : slot.0 ≡ k = pair.0 in
    let same : read.0 ≡ v = pair.1 in
    let holds : Holds at.known (row_at rows slot.0).kind read.0 = bare-holds at (row_at rows slot.0).kind p read.0 read.1 in
    subst (λ (j : ℕ). Holds at.known (row_at rows j).kind v) row (subst (λ (u : Content). Holds at.known (row_at rows slot.0).kind u) same holds)
operand-holds at rows slots (Valued p w t) k v h =
    let slot = bind-ok (slot_of rows slots p w) (λ k. value at (row_at rows k).kind p (valued_words (tokens t)) >>= λ v. Ok (k, v)) (k, v) h in
    let read = bind-ok (value at (row_at rows slot.0).kind p (valued_words (tokens t))) (λ v. Ok (slot.0, v)) (k, v) slot.2 in
    let pair = pair-ok slot.0 k read.0 v read.2 in
    let row : slot.0 ≡ k = pair.0 in
    let same : read.0 ≡ v = pair.1 in
    let fits : FitsHere at.known (row_at rows slot.0).kind read.0 = value-fits at (row_at rows slot.0).kind p (valued_words (tokens t)) read.0 read.1 in
    subst (λ (j : ℕ). Holds at.known (row_at rows j).kind v) row (inr (along-here at.known (row_at rows slot.0).kind read.0 v same fits))
operand-holds at rows slots (Unclosed p w place) k v h =
    let slot = bind-ok (slot_of rows slots p w) (λ k. Err (faults.Unclosed place)) (k, v) h in
    let no = slot.2 in cc
operand-holds at rows slots (Parenthesis p) k v h = cc

pub HoldsAll-tail : (known : Known) (o : Operand) (os : List Operand) (s : Option Content) (ss : Slots) → HoldsAll known (o ∷ os) (s ∷ ss) → HoldsAll known os ss
HoldsAll-tail known o os None ss h = h
HoldsAll-tail known o os (Some v) ss h = h.1

HoldsAll-set : (known : Known) (os : List Operand) (ss : Slots) (k : ℕ) (v : Content) → HoldsAll known os ss → Holds known (row_at os k).kind v → HoldsAll known os (slice_set ss k (Some v))
HoldsAll-set known [] [] k v h holds = tt
HoldsAll-set known [] (s ∷ ss) k v h holds = absurd h
HoldsAll-set known (o ∷ os) [] k v h holds = absurd h
HoldsAll-set known (o ∷ os) (s ∷ ss) zero v h holds = (holds, HoldsAll-tail known o os s ss h)
HoldsAll-set known (o ∷ os) (None ∷ ss) (suc k) v h holds = HoldsAll-set known os ss k v h holds
HoldsAll-set known (o ∷ os) (Some u ∷ ss) (suc k) v h holds = (h.0, HoldsAll-set known os ss k v h.1 holds)

pub HoldsAll-none : (known : Known) (os : List Operand) → HoldsAll known os (no_slots os)
HoldsAll-none known [] = tt
HoldsAll-none known (o ∷ os) = HoldsAll-none known os

pub operands-hold : (at : Scope) (rows : List Operand) (slots : Slots) (is : List ValuedWord) (ss : Slots) → operands_at at rows slots is ≡ Ok ss → HoldsAll at.known rows slots → HoldsAll at.known rows ss
operands-hold at rows slots [] ss h holds = let same : slots ≡ ss = cc in subst (λ (xs : Slots). HoldsAll at.known rows xs) same holds
operands-hold at rows slots (i ∷ is) ss h holds =
    let read = bind-ok (operand_at at rows slots i) (λ x. operands_at at rows (slice_set slots x.0 (Some x.1)) is) ss h in
    operands-hold at rows (slice_set slots read.0.0 (Some read.0.1)) is ss read.2 (HoldsAll-set at.known rows slots read.0.0 read.0.1 holds (operand-holds at rows slots i read.0.0 read.0.1 read.1))
