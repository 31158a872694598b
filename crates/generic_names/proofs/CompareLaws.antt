-- Lists of ranks, compared from the front.
use Rattle.std.proofs.Common.{◌≡◌, ◌≢◌, ℕ, ◌<◌, ◌≤◌, true, false, ltb, List, [], ◌∷◌, ◌++◌, Ordering, refl, ap, sym, ◌∙◌, subst, arith, ⊎_elim}
use Rattle.std.specs.declared.cmp.Ordering.TheVariants.{Less, Equal, Greater}
use Rattle.std.specs.Ordering.{nat_cmp, is_lt, ordering_then}
use Rattle.std.specs.Cmp.Lexicographic.{slice_cmp}
use Rattle.std.proofs.lemmas.Bool.Decides.{nat_tests}
use Rattle.std.proofs.lemmas.Bool.{cases_eq, cases_lt}
use Rattle.generic_names.proofs.FirstLaws.{less_head, same_head}

-- which way two numbers compare
pub record Compared (x y : ℕ) : Type 0 where
  pub less : x < y → nat_cmp x y ≡ Less
  pub same : x ≡ y → nat_cmp x y ≡ Equal
  pub more : y < x → nat_cmp x y ≡ Greater

pub compared : (x y : ℕ) → Compared x y
compared x y = record { less = λ h. grind (arith, nat_tests); same = λ h. grind (arith, nat_tests); more = λ h. grind (arith, nat_tests) }

pub more_head : (x y : ℕ) (xs ys : List ℕ) → y < x → slice_cmp nat_cmp (x ∷ xs) (y ∷ ys) ≡ Greater
more_head x y xs ys h = ap (λ (r : Ordering). ordering_then r (slice_cmp nat_cmp xs ys)) ((compared x y).more h)

-- heads that differ decide
pub is_lt-heads : (x y : ℕ) (xs ys : List ℕ) → x ≢ y → is_lt (slice_cmp nat_cmp (x ∷ xs) (y ∷ ys)) ≡ ltb x y
is_lt-heads x y xs ys h = ⊎_elim
    (λ (l : x < y). let test : ltb x y ≡ true = grind (arith, nat_tests) in ap is_lt (less_head x y xs ys l) ∙ sym test)
    (λ (m : y ≤ x). let test : ltb x y ≡ false = grind (arith, nat_tests) in ap is_lt (more_head x y xs ys (omega arith)) ∙ sym test)
    (cases_lt x y)

pub not_below_nil : (xs : List ℕ) → is_lt (slice_cmp nat_cmp xs []) ≡ false
not_below_nil [] = refl
not_below_nil (x ∷ xs) = refl

-- a list of one rank decides with the first
pub is_lt-last : (x y : ℕ) (xs : List ℕ) → is_lt (slice_cmp nat_cmp (x ∷ xs) (y ∷ [])) ≡ ltb x y
is_lt-last x y xs = ⊎_elim
    (λ (e : x ≡ y). let test : ltb x y ≡ false = grind (arith, nat_tests) in
    subst (λ (z : ℕ). is_lt (slice_cmp nat_cmp (x ∷ xs) (z ∷ [])) ≡ false) e (ap is_lt (same_head x xs []) ∙ not_below_nil xs) ∙ sym test)
    (λ (n : x ≡ y → ⊥). is_lt-heads x y xs [] n)
    (cases_eq x y)

-- Between a list with some front and that front with a higher rank lie only lists with this front.
pub record Between (front : List ℕ) (low high : ℕ) (xs : List ℕ) : Type 0 where
  pub rank : ℕ
  pub rest : List ℕ
  pub split : xs ≡ front ++ rank ∷ rest
  pub from : low ≤ rank
  pub below : rank < high

pub between : (front : List ℕ) (low high : ℕ) (rest xs : List ℕ) → is_lt (slice_cmp nat_cmp xs (front ++ low ∷ rest)) ≡ false → is_lt (slice_cmp nat_cmp xs (front ++ high ∷ [])) ≡ true → Between front low high xs
between [] low high rest [] h k = absurd (cc (h))
between [] low high rest (x ∷ xs) h k =
    let low_test : ltb x low ≡ false = ⊎_elim
    (λ (e : x ≡ low). (grind (arith, nat_tests)))
    (λ (n : x ≡ low → ⊥). sym (is_lt-heads x low xs rest n) ∙ h)
    (cases_eq x low) in
    let high_test : ltb x high ≡ true = sym (is_lt-last x high xs) ∙ k in
    record { rank = x; rest = xs; split = refl; from = grind (arith, nat_tests); below = grind (arith, nat_tests) }
between (f ∷ front) low high rest [] h k = absurd (cc (h))
between (f ∷ front) low high rest (x ∷ xs) h k = ⊎_elim
    (λ (e : x ≡ f).
    let again = between front low high rest xs
    (sym (ap is_lt (same_head f xs (front ++ low ∷ rest))) ∙ subst (λ (z : ℕ). is_lt (slice_cmp nat_cmp (z ∷ xs) (f ∷ (front ++ low ∷ rest))) ≡ false) e h)
    (sym (ap is_lt (same_head f xs (front ++ high ∷ []))) ∙ subst (λ (z : ℕ). is_lt (slice_cmp nat_cmp (z ∷ xs) (f ∷ (front ++ high ∷ []))) ≡ true) e k) in
    record { rank = again.rank; rest = again.rest; split = cc (e, again.split); from = again.from; below = again.below })
    (λ (n : x ≡ f → ⊥). absurd (
    let refused : ltb x f ≡ false = sym (is_lt-heads x f xs (front ++ low ∷ rest) n) ∙ h in
    let met : ltb x f ≡ true = sym (is_lt-heads x f xs (front ++ high ∷ []) n) ∙ k in
    cc (refused, met)))
    (cases_eq x f)

-- the next rank is the first of those that are left
pub next-head : (old new : List ℕ) (r : ℕ) → (r ≢ 259 → old ≡ r ∷ new) → (r ≡ 259 → old ≡ 259 ∷ []) → (rest : List ℕ) × (old ≡ r ∷ rest)
next-head old new r more end = ⊎_elim
    (λ (e : r ≡ 259). ([], end e ∙ ap (λ (x : ℕ). x ∷ []) (sym e)))
    (λ (n : r ≡ 259 → ⊥). (new, more n))
    (cases_eq r 259)
