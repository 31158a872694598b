-- The best of profiles in order.
use Rattle.std.proofs.Common.{◌≡◌, ◌≢◌, ℕ, Bool, true, false, cond, ◌&&◌, ◌||◌, eqb, List, [], ◌∷◌, Option, Some, None, refl, ap, sym, ◌∙◌, subst, arith, ⊎_elim, find, filter}
use Rattle.std.specs.Option.{option_or}
use Rattle.std.specs.List.{AllByRecursion}
use Rattle.std.specs.Str.{bytes_eq}
use Rattle.std.proofs.lemmas.Bool.Decides.{nat_tests}
use Rattle.std.proofs.lemmas.Slice.Eq.{bytes_eq-Decides}
use Rattle.generic_names.specs.declared.kind.NameKind.{NameKind}
use Rattle.generic_names.specs.declared.kind.NameKind.TheVariants.{DataSet, General}
use Rattle.generic_names.specs.Spelled.{Spelled, qualifiers, is_empty}
use Rattle.generic_names.specs.Covers.{is_final, is_open, matches, covers_all, covers}
use Rattle.generic_names.specs.Before.{before}
use Rattle.generic_names.specs.Laws.{IsResource}
use Rattle.generic_names.specs.Best.{more_specific, most_specific, best, IsInOrder, AreNamed, AreOfKind}
use Rattle.generic_names.proofs.Lawful.{EachByte, EachQualifier, IsPlain, resource-plain}
use Rattle.generic_names.proofs.CoverLaws.{covers_all-one}
use Rattle.generic_names.proofs.OrderLaws.{not_both, same_spelled}
use Rattle.generic_names.proofs.FirstLaws.{last, last-get, plain-single, very_name_first}

-- a name matches itself
matches-itself : (q : List ℕ) → matches q q ≡ true
matches-itself [] = refl
matches-itself (b ∷ q) =
    let same : eqb b b ≡ true = grind (arith, nat_tests) in
    rw (same, matches-itself q) (settled (is_final b q) (eqb b 37))
  where
    settled : (s t : Bool) → (s || ((t || true) && true)) ≡ true
    settled true t = refl
    settled false true = refl
    settled false false = refl

last-plain : (q : List ℕ) → EachByte IsPlain q → eqb (last q) 42 ≡ false
last-plain [] h = refl
last-plain (a ∷ []) h = let other : a ≢ 42 = h.0.no_asterisk in grind (arith, nat_tests)
last-plain (a ∷ c ∷ q) h = last-plain (c ∷ q) h.1

plain-shut : (kind : NameKind) (l : Bool) (q : List ℕ) → EachByte IsPlain q → is_open kind l q ≡ false
plain-shut DataSet l q h = refl
plain-shut General true q h = ap (λ (b : ℕ). eqb b 42) (last-get q) ∙ last-plain q h
plain-shut General false q h = refl

itself : (kind : NameKind) (qs : List (List ℕ)) → EachQualifier IsPlain qs → covers_all kind qs qs ≡ true
itself kind [] h = refl
itself kind (q ∷ qs) h =
    covers_all-one kind q qs q qs (plain-single q h.0) (plain-shut kind (is_empty qs) q h.0)
    ∙ ap (λ (b : Bool). b && covers_all kind qs qs) (matches-itself q) ∙ itself kind qs h.1

pub covers-itself : (name : Spelled) → IsResource name → covers name name ≡ true
covers-itself name h = itself name.kind (qualifiers name.text) (resource-plain name h)

module _ {A : Type 0} (name_of : A → Spelled) where
  -- the most specific of some profiles is one of them
  most-all : (P : A → Type 0) (xs : List A) → AllByRecursion P xs → (y : A) → most_specific name_of xs ≡ Some y → P y
  most-all P [] all y is = absurd (cc (is))
  most-all P (x ∷ xs) all y is = settled (λ w e. most-all P xs all.1 w e) (most_specific name_of xs) refl is
    where
      settled : ((w : A) → most_specific name_of xs ≡ Some w → P w) → (o : Option A) → most_specific name_of xs ≡ o → Some (more_specific name_of x o) ≡ Some y → P y
      settled again None was e = subst P (cc (e)) all.0
      settled again (Some w) was e = chosen (before (name_of w) (name_of x)) (cc (e))
        where
          chosen : (t : Bool) → cond t w x ≡ y → P y
          chosen true e = subst P e (again w was)
          chosen false e = subst P e all.0

  filter-all : (P : A → Type 0) (test : A → Bool) (xs : List A) → AllByRecursion P xs → AllByRecursion P (filter test xs)
  filter-all P test [] all = tt
  filter-all P test (x ∷ xs) all = settled (test x) (filter-all P test xs all.1)
    where
      settled : (t : Bool) → AllByRecursion P (filter test xs) → AllByRecursion P (cond t (x ∷ filter test xs) (filter test xs))
      settled true rest = (all.0, rest)
      settled false rest = rest

  first-stays : (x : A) (o : Option A) → ((y : A) → o ≡ Some y → before (name_of x) (name_of y) ≡ true) → more_specific name_of x o ≡ x
  first-stays x None h = refl
  first-stays x (Some y) h = ap (λ (t : Bool). cond t y x) (not_both (name_of x) (name_of y) (h y refl))

  -- no profile of the very name stands behind one that covers the name
  none-behind : (x : A) (xs : List A) (name : Spelled) → IsResource name → (name_of x).kind ≡ name.kind → covers (name_of x) name ≡ true → bytes_eq (name_of x).text name.text ≡ false → AllByRecursion (λ y. (name_of y).kind ≡ name.kind) xs → AllByRecursion (λ y. before (name_of x) (name_of y) ≡ true) xs → find (λ p. bytes_eq (name_of p).text name.text) xs ≡ None
  none-behind x [] name lawful kind covered other kinds behind = refl
  none-behind x (y ∷ ys) name lawful kind covered other kinds behind =
      settled (bytes_eq (name_of y).text name.text) refl (none-behind x ys name lawful kind covered other kinds.1 behind.1)
    where
      settled : (t : Bool) → bytes_eq (name_of y).text name.text ≡ t → find (λ p. bytes_eq (name_of p).text name.text) ys ≡ None → cond t (Some y) (find (λ p. bytes_eq (name_of p).text name.text) ys) ≡ None
      settled false is rest = rest
      settled true is rest =
          let same : name_of y ≡ name = same_spelled (name_of y) name kinds.0 ((bytes_eq-Decides (name_of y).text name.text).0 is) in
          let first : before (name_of x) name ≡ true = subst (λ (n : Spelled). before (name_of x) n ≡ true) same behind.0 in
          absurd (⊎_elim
          (λ (e : name_of x ≡ name). let alike : bytes_eq (name_of x).text name.text ≡ true = (bytes_eq-Decides (name_of x).text name.text).1 (ap (λ (n : Spelled). n.text) e) in cc (alike, other))
          (λ (e : before name (name_of x) ≡ true). let back : before name (name_of x) ≡ false = not_both (name_of x) name first in cc (e, back))
          (very_name_first (name_of x) name lawful kind covered))

  pub best-first : (xs : List A) (name : Spelled) → IsResource name → AreNamed name_of xs → AreOfKind name_of name.kind xs → IsInOrder name_of xs → best name_of xs name ≡ find (λ p. covers (name_of p) name) xs
  best-first [] name lawful named kinds ordered = refl
  best-first (x ∷ xs) name lawful named kinds ordered = settled (best-first xs name lawful named.1 kinds.1 ordered.1) (covers (name_of x) name) (bytes_eq (name_of x).text name.text) refl refl
    where
      very : A → Bool
      very = λ p. bytes_eq (name_of p).text name.text

      covering : A → Bool
      covering = λ p. covers (name_of p) name

      settled : best name_of xs name ≡ find (λ p. covers (name_of p) name) xs → (s t : Bool) → covers (name_of x) name ≡ s → bytes_eq (name_of x).text name.text ≡ t
          → option_or (cond t (Some x) (find (λ p. bytes_eq (name_of p).text name.text) xs)) (most_specific name_of (cond s (x ∷ filter (λ p. covers (name_of p) name) xs) (filter (λ p. covers (name_of p) name) xs)))
          ≡ cond s (Some x) (find (λ p. covers (name_of p) name) xs)
      settled again true true covered alike = refl
      settled again true false covered alike =
          let none = none-behind x xs name lawful kinds.0 covered alike kinds.1 ordered.0 in
          let after = filter-all (λ y. before (name_of x) (name_of y) ≡ true) (λ p. covers (name_of p) name) xs ordered.0 in
          ap (λ (o : Option A). option_or o (most_specific name_of (x ∷ filter (λ p. covers (name_of p) name) xs))) none
          ∙ ap (λ (y : A). Some y) (first-stays x (most_specific name_of (filter (λ p. covers (name_of p) name) xs)) (λ y is. most-all (λ z. before (name_of x) (name_of z) ≡ true) (filter (λ p. covers (name_of p) name) xs) after y is))
      settled again false true covered alike =
          let same : name_of x ≡ name = same_spelled (name_of x) name kinds.0 ((bytes_eq-Decides (name_of x).text name.text).0 alike) in
          let covers_it : covers (name_of x) name ≡ true = subst (λ (n : Spelled). covers n name ≡ true) (sym same) (covers-itself name lawful) in
          absurd (cc (covered, covers_it))
      settled again false false covered alike = again
