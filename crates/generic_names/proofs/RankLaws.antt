-- The ranks of a name, from place to place.
use Rattle.std.proofs.Common.{◌≡◌, ℕ, zero, suc, ◌+◌, ◌-◌, ◌<◌, ◌≤◌, Bool, true, false, cond, ◌&&◌, eqb, List, [], ◌∷◌, length, get_or, take, drop, refl, ap, ◌∙◌, arith, add-one}
use Rattle.std.specs.List.{onto_first}
use Rattle.std.proofs.lemmas.List.{length-drop, get_or-drop}
use Rattle.std.proofs.lemmas.List.Splits.{slice_split-cons_no}
use Rattle.generic_names.specs.Spelled.{qualifiers, is_empty}
use Rattle.generic_names.specs.Covers.{is_double}
use Rattle.generic_names.specs.Before.{rank, ranks}
use Rattle.generic_names.specs.Reading.{rest_at}
use Rattle.generic_names.specs.Ranked.{ranks_within, ranks_at, first_is_double}
use Rattle.generic_names.proofs.QualifierLaws.{rest_at-past, rest_at-first, qualifiers-some, not_period}

-- past the end stands the end of the name
pub ranks_at-past : (text : List ℕ) (begins : Bool) (at : ℕ) → length text < at → ranks_at text begins at ≡ 259 ∷ []
ranks_at-past text true at past = ap (λ (qs : List (List ℕ)). ranks qs) (rest_at-past at text past)
ranks_at-past text false at past = ap (λ (qs : List (List ℕ)). ranks_within qs) (rest_at-past at text past)

-- where a qualifier ends
pub rest_at-end : (text : List ℕ) (at : ℕ) → at ≤ length text → (at < length text → get_or text at 0 ≡ 46) → rest_at text at ≡ [] ∷ rest_at text (at + 1)
rest_at-end text at h ends =
    let room : length (drop at text) ≡ length text - at = length-drop at text in
    let same : at + 0 ≡ at = omega arith in
    let here : get_or (drop at text) 0 0 ≡ get_or text at 0 = get_or-drop at text 0 0 ∙ ap (λ (k : ℕ). get_or text k 0) same in
    let none : at + 0 - at ≡ 0 = omega arith in
    rest_at-first text at 0 h (omega arith) (λ k l _. absurd (omega arith)) (λ l. here ∙ ends (omega arith))
    ∙ ap (λ (k : ℕ). take k (drop at text) ∷ rest_at text (at + 0 + 1)) none
    ∙ ap (λ (k : ℕ). [] ∷ rest_at text (k + 1)) same

pub ranks_at-end : (text : List ℕ) (begins : Bool) (at : ℕ) → at ≤ length text → (at < length text → get_or text at 0 ≡ 46) → ranks_at text begins at ≡ 257 ∷ ranks (rest_at text (at + 1))
ranks_at-end text true at h ends = ap (λ (qs : List (List ℕ)). ranks qs) (rest_at-end text at h ends)
ranks_at-end text false at h ends = ap (λ (qs : List (List ℕ)). ranks_within qs) (rest_at-end text at h ends)

onto_first-is : (x : ℕ) (qs : List (List ℕ)) → is_empty qs ≡ false → (q : List ℕ) × (rest : List (List ℕ)) × (onto_first x qs ≡ (x ∷ q) ∷ rest) × (qs ≡ q ∷ rest)
onto_first-is x [] some = absurd (cc (some))
onto_first-is x (q ∷ qs) some = (q, qs, refl, refl)

-- at a byte of a qualifier
pub rest_at-byte : (text : List ℕ) (at : ℕ) → at < length text → (get_or text at 0 ≡ 46 → ⊥) → (q : List ℕ) × (qs : List (List ℕ)) × (rest_at text at ≡ (get_or text at 0 ∷ q) ∷ qs) × (rest_at text (suc at) ≡ q ∷ qs)
rest_at-byte [] at h other = absurd (omega arith)
rest_at-byte (x ∷ xs) zero h other =
    let found = onto_first-is x (qualifiers xs) (qualifiers-some xs) in
    (found.0, found.1, slice_split-cons_no (λ b. eqb b 46) x xs (not_period x other) ∙ found.2, found.3)
rest_at-byte (x ∷ xs) (suc at) h other = rest_at-byte xs at (omega arith) other

within_byte : (begins : Bool) (b : ℕ) (q : List ℕ) (qs rest next : List (List ℕ)) → rest ≡ (b ∷ q) ∷ qs → next ≡ q ∷ qs → (begins && first_is_double rest) ≡ false → cond begins (ranks rest) (ranks_within rest) ≡ rank b ∷ ranks_within next
within_byte true b q qs rest next is then one =
    let single : is_double (b ∷ q) ≡ false = rw is at one in
    rw (is, then, single) refl
within_byte false b q qs rest next is then one = rw (is, then) refl

pub ranks_at-byte : (text : List ℕ) (begins : Bool) (at : ℕ) → at < length text → (get_or text at 0 ≡ 46 → ⊥) → (begins && first_is_double (rest_at text at)) ≡ false → ranks_at text begins at ≡ rank (get_or text at 0) ∷ ranks_within (rest_at text (at + 1))
ranks_at-byte text begins at h other one =
    let found = rest_at-byte text at h other in
    rw add-one (within_byte begins (get_or text at 0) found.0 found.1 (rest_at text at) (rest_at text (suc at)) found.2 found.3 one)
