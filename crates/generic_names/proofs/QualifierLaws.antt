-- The qualifiers of a text, from place to place.
use Rattle.std.proofs.Common.{◌≡◌, ℕ, zero, suc, ◌+◌, ◌-◌, ◌<◌, ◌≤◌, true, false, cond, eqb, List, [], ◌∷◌, length, get_or, take, drop, refl, ap, sym, ◌∙◌, arith, add-zero, add-suc, ⊎_elim}
use Rattle.std.specs.List.{onto_first, slice_range}
use Rattle.std.proofs.lemmas.Bool.Decides.{nat_tests}
use Rattle.std.proofs.lemmas.List.Splits.{slice_split-cons_no}
use Rattle.std.proofs.lemmas.Bool.{cases_lt}
use Rattle.generic_names.specs.Spelled.{qualifiers, is_empty}
use Rattle.generic_names.specs.Reading.{rest_at}

pub not_period : (x : ℕ) → (x ≡ 46 → ⊥) → eqb x 46 ≡ false
not_period x h = grind (arith, nat_tests)

-- the first qualifier runs to the first period
pub qualifiers-first : (n : ℕ) (xs : List ℕ) → n ≤ length xs → ((k : ℕ) → k < n → get_or xs k 0 ≡ 46 → ⊥) → (n < length xs → get_or xs n 0 ≡ 46) → qualifiers xs ≡ take n xs ∷ rest_at xs (suc n)
qualifiers-first zero [] h before at = refl
qualifiers-first zero (x ∷ xs) h before at = let e : x ≡ 46 = at (omega arith) in rw e refl
qualifiers-first (suc n) [] h before at = absurd (omega arith)
qualifiers-first (suc n) (x ∷ xs) h before at =
    let no : eqb x 46 ≡ false = not_period x (before 0 (omega arith)) in
    slice_split-cons_no (λ b. eqb b 46) x xs no
    ∙ ap (λ qs. onto_first x qs) (qualifiers-first n xs (omega arith) (λ k l. before (suc k) (omega arith)) (λ l. at (omega arith)))

-- from a place within the text on, they are those of the bytes from there on
pub rest_at-within : (n : ℕ) (xs : List ℕ) → n ≤ length xs → rest_at xs n ≡ qualifiers (drop n xs)
rest_at-within zero xs h = refl
rest_at-within (suc n) [] h = absurd (omega arith)
rest_at-within (suc n) (x ∷ xs) h = rest_at-within n xs (omega arith)

pub rest_at-past : (n : ℕ) (xs : List ℕ) → length xs < n → rest_at xs n ≡ []
rest_at-past zero xs h = absurd (omega arith)
rest_at-past (suc n) [] h = refl
rest_at-past (suc n) (x ∷ xs) h = rest_at-past n xs (omega arith)

pub rest_at-drop : (at n : ℕ) (xs : List ℕ) → at ≤ length xs → rest_at (drop at xs) n ≡ rest_at xs (n + at)
rest_at-drop zero n xs h = rw add-zero refl
rest_at-drop (suc at) n [] h = absurd (omega arith)
rest_at-drop (suc at) n (x ∷ xs) h = rw add-suc (rest_at-drop at n xs (omega arith))

-- the qualifier that begins at a place, which runs to the next period
pub rest_at-first : (xs : List ℕ) (at n : ℕ) → at ≤ length xs → n ≤ length (drop at xs) → ((k : ℕ) → k < n → get_or (drop at xs) k 0 ≡ 46 → ⊥) → (n < length (drop at xs) → get_or (drop at xs) n 0 ≡ 46) → rest_at xs at ≡ slice_range xs at (at + n) ∷ rest_at xs (at + n + 1)
rest_at-first xs at n h m before period =
    let width : at + n - at ≡ n = omega arith in
    let next : suc n + at ≡ at + n + 1 = omega arith in
    rest_at-within at xs h ∙ qualifiers-first n (drop at xs) m before period
    ∙ ap (λ rest. take n (drop at xs) ∷ rest) (rest_at-drop at (suc n) xs h)
    ∙ ap (λ k. take n (drop at xs) ∷ rest_at xs k) next
    ∙ ap (λ k. take k (drop at xs) ∷ rest_at xs (at + n + 1)) (sym width)

onto_first-some : (x : ℕ) (qs : List (List ℕ)) → is_empty (onto_first x qs) ≡ false
onto_first-some x [] = refl
onto_first-some x (q ∷ qs) = refl

-- there is a first qualifier
pub qualifiers-some : (xs : List ℕ) → is_empty (qualifiers xs) ≡ false
qualifiers-some [] = refl
qualifiers-some (x ∷ xs) = elim (eqb x 46) as (λ v. is_empty (cond v ([] ∷ qualifiers xs) (onto_first x (qualifiers xs))) ≡ false) [ true ↦ refl | false ↦ onto_first-some x (qualifiers xs) ]

-- the last qualifier is the one that ends with the text
pub rest_at-last : (xs : List ℕ) (end : ℕ) → end ≤ length xs → eqb end (length xs) ≡ is_empty (rest_at xs (end + 1))
rest_at-last xs end h =
    ⊎_elim
    (λ (less : end < length xs).
    let within : rest_at xs (end + 1) ≡ qualifiers (drop (end + 1) xs) = rest_at-within (end + 1) xs (omega arith) in
    let other : eqb end (length xs) ≡ false = grind (arith, nat_tests) in
    rw (within, other) (sym (qualifiers-some (drop (end + 1) xs))))
    (λ (more : length xs ≤ end).
    let past : rest_at xs (end + 1) ≡ [] = rest_at-past (end + 1) xs (omega arith) in
    let same : eqb end (length xs) ≡ true = grind (arith, nat_tests) in
    rw (past, same) refl)
    (cases_lt end (length xs))
