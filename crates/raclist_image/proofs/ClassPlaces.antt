-- The places of classes by their names, where a class is put in the place of one of its name, and where one more goes
-- last.
use Rattle.std.proofs.Common.{◌≡◌, ℕ, ◌+◌, ◌≤◌, ◌<◌, Bool, true, false, cond, not, nat_lt, eqb, List, [], ◌∷◌, ◌++◌, zero, suc, length, take, set, get_or, bytes_eq, Option, Some, None, refl, sym, ap, ◌∙◌, arith, length-append, length-take-le}
use Rattle.std.specs.List.{position, position_or_len, slice_get}
use Rattle.std.specs.Option.{option_or, option_map}
use Rattle.std.proofs.Math.ListN.{length-set}
use Rattle.std.proofs.lemmas.Bool.Decides.{nat_tests}
use Rattle.std.proofs.lemmas.List.{take_more}
use Rattle.std.proofs.lemmas.List.Sums.{prefix_len-le-length}
use Rattle.std.proofs.lemmas.List.Folds.{position_or_len-set, position_or_len_push}
use Rattle.racf_profiles.specs.declared.class_rows.ClassRow.{ClassRow}
use Rattle.racf_profiles.specs.Lookup.{is_class}

-- ---- one more goes last
pushed : (n l m : ℕ) (b : Bool) → n ≤ l → m ≡ cond (eqb n l) (l + cond b 0 1) n → cond (nat_lt m (l + 1)) (Some m) None ≡ option_or (cond (nat_lt n l) (Some n) None) (cond b (Some l) None)
pushed n l m true le is = grind (arith, nat_tests)
pushed n l m false le is = grind (arith, nat_tests)

module _ {X : Type 0} (p : X → Bool) where
  pub position_push : (xs : List X) (x : X) → position p (xs ++ x ∷ []) ≡ option_or (position p xs) (cond (p x) (Some (length xs)) None)
  position_push xs x =
      let n : ℕ = position_or_len p (xs ++ x ∷ []) in
      ap (λ l. cond (nat_lt n l) (Some n) None) (length-append xs (x ∷ []))
      ∙ pushed (position_or_len p xs) (length xs) n (p x) (prefix_len-le-length (λ y. not (p y)) xs) (position_or_len_push p xs x)

  got-at : (xs : List X) (k : ℕ) (y : X) → slice_get xs k ≡ Some y → get_or xs k y ≡ y
  got-at [] k y got = refl
  got-at (x ∷ xs) zero y got = cc
  got-at (x ∷ xs) (suc k) y got = got-at xs k y got

  -- ---- what passes in the place of what passes
  pub position-set : (xs : List X) (k : ℕ) (x y : X) → slice_get xs k ≡ Some y → p x ≡ p y → position p (set xs k x) ≡ position p xs
  position-set xs k x y got same =
      ap (λ n. cond (nat_lt n (length (set xs k x))) (Some n) None) (position_or_len-set p xs k x y (same ∙ ap p (sym (got-at xs k y got))))
      ∙ ap (λ l. cond (nat_lt (position_or_len p xs) l) (Some (position_or_len p xs)) None) (length-set xs k x)

pub places-more : (classes : List ClassRow) (i : ℕ) (class : ClassRow) (name : List ℕ) → class ≡ get_or classes i class → i < length classes
    → option_or (position (is_class name) (take i classes)) (cond (bytes_eq class.name name) (Some i) None) ≡ position (is_class name) (take (i + 1) classes)
places-more classes i class name is lt =
    ap (λ n. option_or (position (is_class name) (take i classes)) (cond (bytes_eq class.name name) (Some n) None)) (sym (length-take-le i classes (omega arith)))
    ∙ sym (position_push (is_class name) (take i classes) class)
    ∙ ap (position (is_class name)) (ap (λ (c : ClassRow). take i classes ++ c ∷ []) is ∙ sym (take_more classes i class lt))

pub places-set : (classes : List ClassRow) (k : ℕ) (class : ClassRow) (name : List ℕ) → option_map (λ (c : ClassRow). c.name) (slice_get classes k) ≡ Some class.name → position (is_class name) (set classes k class) ≡ position (is_class name) classes
places-set classes k class name named = by (slice_get classes k) refl named
  where
    by : (o : Option ClassRow) → slice_get classes k ≡ o → option_map (λ (c : ClassRow). c.name) o ≡ Some class.name → position (is_class name) (set classes k class) ≡ position (is_class name) classes
    by None got h = absurd cc
    by (Some row) got h = let same : row.name ≡ class.name = cc in position-set (is_class name) classes k class row got (ap (λ n. bytes_eq n name) (sym same))
