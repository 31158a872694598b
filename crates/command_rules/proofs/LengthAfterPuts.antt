-- How a list grows to which things are put one by one, each in place of the one like it, or else added.
use Rattle.std.proofs.Common.{◌≡◌, ℕ, ◌+◌, ◌-◌, ◌≤◌, Bool, true, false, cond, ◌||◌, List, [], ◌∷◌, length, refl, sym, ap, ◌∙◌, arith}
use Rattle.std.specs.Prelude.{fold}
use Rattle.std.specs.List.{list_any}
use Rattle.std.proofs.Math.Bool.{or_assoc}

pub or-comm : (a b : Bool) → (a || b) ≡ (b || a)
or-comm true true = refl
or-comm true false = refl
or-comm false true = refl
or-comm false false = refl

-- A row in place of the first that it replaces, or else last.
module _ {X K : Type 0} (put : (X → Bool) → X → List X → List X) (is : K → X → Bool) (made : K → X) (same : K → K → Bool)
    (put_none : (r : X → Bool) (x : X) → put r x [] ≡ x ∷ []) (put_some : (r : X → Bool) (x y : X) (ys : List X) → put r x (y ∷ ys) ≡ cond (r y) (x ∷ ys) (y ∷ put r x ys))
    (own : (j k : K) → is j (made k) ≡ same k j) (alike : (j k : K) (x : X) → is k x ≡ true → is j x ≡ same k j) where
  pub any-put : (j k : K) (list : List X) → list_any (is j) (put (is k) (made k) list) ≡ (list_any (is j) list || same k j)
  any-put j k [] = ap (list_any (is j)) (put_none (is k) (made k)) ∙ or-comm (is j (made k)) false ∙ own j k
  any-put j k (x ∷ xs) = ap (list_any (is j)) (put_some (is k) (made k) x xs) ∙ by (is k x) refl (any-put j k xs)
    where
      twice : (s a : Bool) → (s || a) ≡ ((s || a) || s)
      twice true a = refl
      twice false true = refl
      twice false false = refl

      by : (t : Bool) → is k x ≡ t → list_any (is j) (put (is k) (made k) xs) ≡ (list_any (is j) xs || same k j)
          → list_any (is j) (cond t (made k ∷ xs) (x ∷ put (is k) (made k) xs)) ≡ ((is j x || list_any (is j) xs) || same k j)
      by true t rest =
          ap (λ s. s || list_any (is j) xs) (own j k) ∙ twice (same k j) (list_any (is j) xs) ∙ ap (λ s. (s || list_any (is j) xs) || same k j) (sym (alike j k x t))
      by false t rest = ap (λ a. is j x || a) rest ∙ sym (or_assoc (is j x) (list_any (is j) xs) (same k j))

  pub length-put : (k : K) (list : List X) → length (put (is k) (made k) list) ≡ length list + cond (list_any (is k) list) 0 1
  length-put k [] = ap (λ (xs : List X). length xs) (put_none (is k) (made k))
  length-put k (x ∷ xs) = ap (λ (ys : List X). length ys) (put_some (is k) (made k) x xs) ∙ by (is k x) (length-put k xs)
    where
      by : (t : Bool) → length (put (is k) (made k) xs) ≡ length xs + cond (list_any (is k) xs) 0 1
          → length (cond t (made k ∷ xs) (x ∷ put (is k) (made k) xs)) ≡ length (x ∷ xs) + cond (t || list_any (is k) xs) 0 1
      by true rest = omega arith
      by false rest = omega (arith, rest)

-- Many of them: what is there then, and how one more makes the list grow.
module _ {X K : Type 0} (put : List X → K → List X) (is : K → X → Bool) (same : K → K → Bool)
    (any_put : (j k : K) (list : List X) → list_any (is j) (put list k) ≡ (list_any (is j) list || same k j))
    (length_put : (k : K) (list : List X) → length (put list k) ≡ length list + cond (list_any (is k) list) 0 1) where
  pub any-fold : (j : K) (list : List X) (ks : List K) → list_any (is j) (fold put list ks) ≡ (list_any (is j) list || list_any (λ k. same k j) ks)
  any-fold j list [] = sym (or-comm (list_any (is j) list) false)
  any-fold j list (k ∷ ks) =
      any-fold j (put list k) ks ∙ ap (λ a. a || list_any (λ k. same k j) ks) (any_put j k list)
      ∙ or_assoc (list_any (is j) list) (same k j) (list_any (λ k. same k j) ks)

  pub length-more : (k : K) (list : List X) (ks : List K) → length (put (fold put list ks) k) ≡ length (fold put list ks) + cond (list_any (is k) list || list_any (λ j. same j k) ks) 0 1
  length-more k list ks = length_put k (fold put list ks) ∙ ap (λ b. length (fold put list ks) + cond b 0 1) (any-fold k list ks)

-- the count of what there is and of what is still to come, one step further
pub one_less : (b : Bool) (count before after left repeats : ℕ) → count ≡ before + (left + 1) → after ≡ before + cond b 0 1 → repeats ≡ cond b 1 0 → count - repeats ≡ after + left
one_less true count before after left repeats h more r = omega (arith, h, more, r)
one_less false count before after left repeats h more r = omega (arith, h, more, r)

pub at_least : (b : Bool) (count before left repeats : ℕ) → count ≡ before + (left + 1) → repeats ≡ cond b 1 0 → repeats ≤ count
at_least true count before left repeats h r = omega (arith, h, r)
at_least false count before left repeats h r = omega (arith, h, r)
