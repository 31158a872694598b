-- A pattern and a name that begin with different bytes.
use Rattle.std.proofs.Common.{◌≡◌, ◌≢◌, ℕ, ◌<◌, Bool, true, false, cond, not, ◌&&◌, eqb, List, [], ◌∷◌, ◌++◌, map, length, get_or, refl, ap, sym, ◌∙◌, arith}
use Rattle.std.specs.List.{onto_first}
use Rattle.std.proofs.lemmas.Bool.Decides.{nat_tests}
use Rattle.std.proofs.lemmas.Bool.{not-true}
use Rattle.generic_names.specs.Spelled.{qualifiers}
use Rattle.generic_names.specs.Covers.{is_double}
use Rattle.generic_names.specs.Before.{rank, ranks}
use Rattle.generic_names.specs.Gap.{begin_apart}

-- what stands in a list whose first element is put in front of another
first_of_onto : (a : ℕ) (qs : List (List ℕ)) → (q : List ℕ) × (rest : List (List ℕ)) × (onto_first a qs ≡ (a ∷ q) ∷ rest)
first_of_onto a [] = ([], [], refl)
first_of_onto a (q ∷ qs) = (q, qs, refl)

no-double : (a : ℕ) (q : List ℕ) → eqb a 42 ≡ false → is_double (a ∷ q) ≡ false
no-double a q h = ap (λ (t : Bool). t && is_double (42 ∷ q)) h

-- the first rank of a pattern is its first byte, where that stands for itself
pub first-rank : (a : ℕ) (pattern : List ℕ) (r : ℕ) (rest : List ℕ) → eqb a 46 ≡ false → eqb a 37 ≡ false → eqb a 42 ≡ false → ranks (qualifiers (a ∷ pattern)) ≡ r ∷ rest → r ≡ a
first-rank a pattern r rest period percent asterisk is =
    let shape = first_of_onto a (qualifiers pattern) in
    let split : qualifiers (a ∷ pattern) ≡ (a ∷ shape.0) ∷ shape.1 = ap (λ (t : Bool). cond t ([] ∷ qualifiers pattern) (onto_first a (qualifiers pattern))) period ∙ shape.2 in
    let ranked : rank a ≡ a = ap (λ (t : Bool). cond t 256 (cond (eqb a 42) 258 a)) percent ∙ ap (λ (t : Bool). cond t 258 a) asterisk in
    let whole : ranks (qualifiers (a ∷ pattern)) ≡ rank a ∷ (map rank shape.0 ++ 257 ∷ ranks shape.1) =
    ap ranks split ∙ ap (λ (t : Bool). cond t (260 ∷ ranks shape.1) (map rank (a ∷ shape.0) ++ 257 ∷ ranks shape.1)) (no-double a shape.0 asterisk) in
    let heads : r ∷ rest ≡ rank a ∷ (map rank shape.0 ++ 257 ∷ ranks shape.1) = sym is ∙ whole in
    let head : r ≡ rank a = cc heads in
    head ∙ ranked

four : (s t u v : Bool) → (s && t && u && v) ≡ true → (s ≡ true) × (t ≡ true) × (u ≡ true) × (v ≡ true)
four true true true true h = (refl, refl, refl, refl)
four true true true false h = absurd (cc h)
four true true false v h = absurd (cc h)
four true false u v h = absurd (cc h)
four false t u v h = absurd (cc h)

-- The first rank of such a pattern is its first byte, which isn't the name's.
pub apart-first : (pattern name : List ℕ) (r : ℕ) (rest : List ℕ) → begin_apart pattern name ≡ true → ranks (qualifiers pattern) ≡ r ∷ rest → (r ≡ get_or pattern 0 0) × (0 < length pattern) × (r ≢ get_or name 0 0)
apart-first [] name r rest apart is = absurd (cc apart)
apart-first (a ∷ pattern) [] r rest apart is = absurd (cc apart)
apart-first (a ∷ pattern) (b ∷ name) r rest apart is =
    let tests = four (not (eqb a b)) (not (eqb a 46)) (not (eqb a 37)) (not (eqb a 42)) apart in
    let first : r ≡ a = first-rank a pattern r rest (not-true (eqb a 46) tests.1) (not-true (eqb a 37) tests.2) (not-true (eqb a 42) tests.3) is in
    let other : eqb a b ≡ false = not-true (eqb a b) tests.0 in
    (first, (omega arith), (λ e. let same : a ≡ b = sym first ∙ e in grind (arith, nat_tests)))
