-- A slot that is found by its name, and replaced by one of the same name.
use Rattle.std.proofs.Common.{ℕ, ◌≡◌, ◌≢◌, ltb, Bool, true, false, cond, List, length, get_or, None, Some, refl, sym, ◌∙◌, ap, arith}
use Rattle.std.specs.Prelude.{find, position, if◌then◌else◌}
use Rattle.std.specs.List.{position_or_len}
use Rattle.std.specs.Str.{bytes_eq}
use Rattle.std.proofs.Math.ListN.{set}
use Rattle.std.proofs.lemmas.Bool.{false_from_ne_true, ltb-false}
use Rattle.std.proofs.lemmas.List.Folds.{find_at, find-set, find_past}
use Rattle.std.proofs.lemmas.List.Quantifiers.{position-Some}
use Rattle.std.proofs.lemmas.List.Sums.{position_or_len_is}
use Rattle.std.proofs.lemmas.Option.{slice_get_past}
use Rattle.std.proofs.lemmas.Slice.Eq.{bytes_eq-Decides}
use Rattle.racf_outside.specs.Slots.{KeptOutput, is_named, told_of}

-- bytes that are one name are no other
one_name : (bytes name other : List ℕ) → bytes_eq bytes name ≡ true → other ≢ name → bytes_eq bytes other ≡ false
one_name bytes name other h ne =
    false_from_ne_true (bytes_eq bytes other) (λ same. ne (sym ((bytes_eq-Decides bytes other).0 same) ∙ (bytes_eq-Decides bytes name).0 h))

pub find-replaced : (name : List ℕ) (slots : List KeptOutput) (i : ℕ) (slot new : KeptOutput) → position (is_named name) slots ≡ Some i → slot ≡ get_or slots i slot → new.name ≡ slot.name → find (is_named name) (set slots i new) ≡ Some new
find-replaced name slots i slot new at is names =
    let p = position-Some (is_named name) slots i slot at in
    let first : position_or_len (is_named name) slots ≡ i = position_or_len_is (is_named name) slots i slot (omega (arith, p.0)) p.2 (λ _. p.1) in
    find-set (is_named name) slots i new (sym first) p.0 (ap (λ bytes. bytes_eq bytes name) names ∙ ap (λ s. bytes_eq s.name name) is ∙ p.1)

pub find-other : (name other : List ℕ) (slots : List KeptOutput) (i : ℕ) (slot new : KeptOutput) → position (is_named name) slots ≡ Some i → slot ≡ get_or slots i slot → new.name ≡ slot.name → other ≢ name → find (is_named other) (set slots i new) ≡ find (is_named other) slots
find-other name other slots i slot new at is names ne =
    let p = position-Some (is_named name) slots i slot at in
    let named : bytes_eq new.name name ≡ true = ap (λ bytes. bytes_eq bytes name) names ∙ ap (λ s. bytes_eq s.name name) is ∙ p.1 in
    find_past (is_named other) slots i new slot (one_name ((get_or slots i slot).name) name other p.1 ne) (one_name (new.name) name other named ne)

none_is_false : (b : Bool) (i : ℕ) → cond b (Some i) None ≡ None → b ≡ false
none_is_false true i h = absurd (some_is_none h)
  where
    some_is_none : Some i ≡ None → ⊥
    some_is_none e = cc
none_is_false false i h = refl

pub find-missing : (name : List ℕ) (slots : List KeptOutput) → position (is_named name) slots ≡ None → find (is_named name) slots ≡ None
find-missing name slots h =
    find_at (is_named name) slots ∙ slice_get_past slots (position_or_len (is_named name) slots) (ltb-false (position_or_len (is_named name) slots) (length slots) (none_is_false (ltb (position_or_len (is_named name) slots) (length slots)) (position_or_len (is_named name) slots) h))

-- what isn't lent tells its bytes
pub told-closed : (output : KeptOutput) → output.lent ≡ false → told_of (Some output) ≡ output.bytes
told-closed output closed = ap (λ lent. if lent then None else output.bytes) closed
