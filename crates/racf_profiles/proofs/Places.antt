-- The place where a search finds a row, and what a change there makes of all rows.
use Rattle.std.proofs.Common.{◌≡◌, ℕ, zero, suc, ◌+◌, ◌<◌, Bool, true, false, cond, not, nat_lt, List, [], ◌∷◌, ◌++◌, length, set, remove, Option, Some, None, refl, sym, ap, subst, ◌∙◌, arith}
use Rattle.std.specs.List.{find, position, position_or_len, slice_get}
use Rattle.std.proofs.lemmas.Bool.Decides.{nat_tests}
use Rattle.racf_profiles.specs.Edits.{put_row, drop_row}

module _ {X : Type 0} (p : X → Bool) where
  -- the first row that passes stands at the place
  abbrev pub IsAt : List X → ℕ → Type 0
  IsAt [] k = ⊥
  IsAt (x ∷ xs) zero = p x ≡ true
  IsAt (x ∷ xs) (suc k) = (p x ≡ false) × IsAt xs k

  abbrev pub IsPlace : List X → Option ℕ → Type 0
  IsPlace xs None = find p xs ≡ None
  IsPlace xs (Some k) = IsAt xs k

  pub place-is : (xs : List X) → IsPlace xs (position p xs)
  place-is [] = refl
  place-is (x ∷ xs) = by (p x) refl (place-is xs)
    where
      further : (b : Bool) (n : ℕ) → p x ≡ false → IsPlace xs (cond b (Some n) None) → IsPlace (x ∷ xs) (cond b (Some (suc n)) None)
      further true n is rest = (is, rest)
      further false n is rest = ap (λ b. cond b (Some x) (find p xs)) is ∙ rest

      by : (b : Bool) → p x ≡ b → IsPlace xs (position p xs)
          → IsPlace (x ∷ xs) (let n = cond (not b) (1 + position_or_len p xs) 0 in cond (nat_lt n (length (x ∷ xs))) (Some n) None)
      by true is rest =
          let below : nat_lt 0 (suc (length xs)) ≡ true = grind (arith, nat_tests) in
          subst (λ (b : Bool). IsPlace (x ∷ xs) (cond b (Some 0) None)) (sym below) is
      by false is rest =
          let n : ℕ = position_or_len p xs in
          let one : 1 + n ≡ suc n = omega arith in
          let below : nat_lt (suc n) (suc (length xs)) ≡ nat_lt n (length xs) = grind (arith, nat_tests) in
          subst (λ (m : ℕ). IsPlace (x ∷ xs) (cond (nat_lt m (suc (length xs))) (Some m) None)) (sym one)
          (subst (λ (b : Bool). IsPlace (x ∷ xs) (cond b (Some (suc n)) None)) (sym below) (further (nat_lt n (length xs)) n is rest))

  pub at-is : (xs : List X) (k : ℕ) → Some k ≡ position p xs → IsAt xs k
  at-is xs k e = subst (IsPlace xs) (sym e) (place-is xs)

  pub none-is : (xs : List X) → None ≡ position p xs → find p xs ≡ None
  none-is xs e = subst (IsPlace xs) (sym e) (place-is xs)

  pub within : (xs : List X) (k : ℕ) → IsAt xs k → k < length xs
  within [] k at = absurd at
  within (x ∷ xs) zero at = omega arith
  within (x ∷ xs) (suc k) at = omega (arith, within xs k at.1)

  pub found-at : (xs : List X) (k : ℕ) (x : X) → IsAt xs k → slice_get xs k ≡ Some x → find p xs ≡ Some x
  found-at [] k x at got = absurd at
  found-at (y ∷ ys) zero x at got = ap (λ b. cond b (Some y) (find p ys)) at ∙ got
  found-at (y ∷ ys) (suc k) x at got = ap (λ b. cond b (Some y) (find p ys)) at.0 ∙ found-at ys k x at.1 got

  pub put-at : (xs : List X) (k : ℕ) (x : X) → IsAt xs k → put_row p x xs ≡ set xs k x
  put-at [] k x at = absurd at
  put-at (y ∷ ys) zero x at = ap (λ b. cond b (x ∷ ys) (y ∷ put_row p x ys)) at
  put-at (y ∷ ys) (suc k) x at = ap (λ b. cond b (x ∷ ys) (y ∷ put_row p x ys)) at.0 ∙ ap (λ rest. y ∷ rest) (put-at ys k x at.1)

  pub put-absent : (xs : List X) (x : X) → find p xs ≡ None → put_row p x xs ≡ xs ++ x ∷ []
  put-absent [] x absent = refl
  put-absent (y ∷ ys) x absent = by (p y) absent (put-absent ys x)
    where
      by : (b : Bool) → cond b (Some y) (find p ys) ≡ None → (find p ys ≡ None → put_row p x ys ≡ ys ++ x ∷ []) → cond b (x ∷ ys) (y ∷ put_row p x ys) ≡ y ∷ (ys ++ x ∷ [])
      by true h rest = cc
      by false h rest = ap (λ zs. y ∷ zs) (rest h)

  pub drop-at : (xs : List X) (k : ℕ) → IsAt xs k → drop_row p xs ≡ remove xs k
  drop-at [] k at = absurd at
  drop-at (y ∷ ys) zero at = ap (λ b. cond b ys (y ∷ drop_row p ys)) at
  drop-at (y ∷ ys) (suc k) at = ap (λ b. cond b ys (y ∷ drop_row p ys)) at.0 ∙ ap (λ rest. y ∷ rest) (drop-at ys k at.1)
