-- The first element that passes a test: found, and taken out.
use Rattle.std.proofs.Common.{◌≡◌, ℕ, suc, ◌+◌, ◌<◌, ◌≤◌, Bool, true, false, not, cond, List, [], ◌∷◌, ◌++◌, length, take, drop, get_or, Some, None, refl, ap, ◌∙◌, arith}
use Rattle.std.specs.Prelude.{position, find, nat_lt}
use Rattle.std.specs.List.{position_or_len}
use Rattle.std.proofs.lemmas.Bool.Decides.{nat_tests}
use Rattle.racf_profiles.specs.Edits.{drop_row}

module _ {X : Type 0} (p : X → Bool) where
  drop_step : (x : X) (xs : List X) → take (position_or_len p xs) xs ++ drop (position_or_len p xs + 1) xs ≡ drop_row p xs → (v : Bool) → take (cond (not v) (1 + position_or_len p xs) 0) (x ∷ xs) ++ drop (cond (not v) (1 + position_or_len p xs) 0 + 1) (x ∷ xs) ≡ cond v xs (x ∷ drop_row p xs)
  drop_step x xs h true = refl
  drop_step x xs h false =
      let front : 1 + position_or_len p xs ≡ suc (position_or_len p xs) = omega arith in
      let behind : 1 + position_or_len p xs + 1 ≡ suc (position_or_len p xs + 1) = omega arith in
      ap (λ n. take n (x ∷ xs) ++ drop (1 + position_or_len p xs + 1) (x ∷ xs)) front
      ∙ ap (λ n. (x ∷ take (position_or_len p xs) xs) ++ drop n (x ∷ xs)) behind
      ∙ ap (λ rows. x ∷ rows) h

  -- the rows around the first that passes
  pub drop_row-around : (xs : List X) → take (position_or_len p xs) xs ++ drop (position_or_len p xs + 1) xs ≡ drop_row p xs
  drop_row-around [] = refl
  drop_row-around (x ∷ xs) = drop_step x xs (drop_row-around xs) (p x)

  find_step : (x d : X) (xs : List X) → (position_or_len p xs < length xs → find p xs ≡ Some (get_or xs (position_or_len p xs) d)) → (v : Bool) → cond (not v) (1 + position_or_len p xs) 0 < length (x ∷ xs) → cond v (Some x) (find p xs) ≡ Some (get_or (x ∷ xs) (cond (not v) (1 + position_or_len p xs) 0) d)
  find_step x d xs h true l = refl
  find_step x d xs h false l =
      let more : suc (position_or_len p xs) ≡ 1 + position_or_len p xs = omega arith in
      h (omega arith) ∙ ap (λ n. Some (get_or (x ∷ xs) n d)) more

  pub find-there : (xs : List X) (d : X) → position_or_len p xs < length xs → find p xs ≡ Some (get_or xs (position_or_len p xs) d)
  find-there [] d l = absurd (omega arith)
  find-there (x ∷ xs) d l = find_step x d xs (find-there xs d) (p x) l

  some_by : (b : Bool) (k i n : ℕ) → nat_lt k n ≡ b → cond b (Some k) None ≡ Some i → (i ≡ k) × (k < n)
  some_by true k i n test e = (cc, grind (arith, nat_tests))
  some_by false k i n test e = cc

  -- where the first stands
  pub position-some : (xs : List X) (i : ℕ) → position p xs ≡ Some i → (i ≡ position_or_len p xs) × (position_or_len p xs < length xs)
  position-some xs i e = some_by (nat_lt (position_or_len p xs) (length xs)) (position_or_len p xs) i (length xs) refl e

  none_by : (b : Bool) (k n : ℕ) → nat_lt k n ≡ b → cond b (Some k) None ≡ None → n ≤ k
  none_by true k n test e = cc
  none_by false k n test e = grind (arith, nat_tests)

  pub position-none : (xs : List X) → position p xs ≡ None → length xs ≤ position_or_len p xs
  position-none xs e = none_by (nat_lt (position_or_len p xs) (length xs)) (position_or_len p xs) (length xs) refl e

  gone_step : (x : X) (xs : List X) → (length xs ≤ position_or_len p xs → (find p xs ≡ None) × (drop_row p xs ≡ xs)) → (v : Bool) → length (x ∷ xs) ≤ cond (not v) (1 + position_or_len p xs) 0 → (cond v (Some x) (find p xs) ≡ None) × (cond v xs (x ∷ drop_row p xs) ≡ x ∷ xs)
  gone_step x xs h true l = absurd (omega arith)
  gone_step x xs h false l = let rest = h (omega arith) in (rest.0, ap (λ rows. x ∷ rows) rest.1)

  -- where none passes, none is found and all stay
  pub find-nowhere : (xs : List X) → length xs ≤ position_or_len p xs → (find p xs ≡ None) × (drop_row p xs ≡ xs)
  find-nowhere [] l = (refl, refl)
  find-nowhere (x ∷ xs) l = gone_step x xs (find-nowhere xs) (p x) l
