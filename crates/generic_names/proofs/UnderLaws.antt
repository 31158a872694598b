-- Names with one first qualifier, in the order of specificity.
use Rattle.std.proofs.Common.{◌≡◌, ℕ, suc, ◌+◌, ◌<◌, Bool, true, false, cond, not, eqb, ltb, List, [], ◌∷◌, ◌++◌, map, take, append_assoc, refl, ap, sym, ◌∙◌, subst, arith, ⊎_elim}
use Rattle.std.specs.Ordering.{nat_cmp, is_lt}
use Rattle.std.specs.Cmp.Lexicographic.{slice_cmp}
use Rattle.std.specs.List.{onto_first, position_or_len}
use Rattle.std.proofs.lemmas.Bool.{cases_eq}
use Rattle.std.proofs.lemmas.List.{map-append}
use Rattle.std.proofs.lemmas.List.Splits.{slice_split-cons_no}
use Rattle.generic_names.specs.Spelled.{Spelled, qualifiers, first_qualifier}
use Rattle.generic_names.specs.Covers.{is_double}
use Rattle.generic_names.specs.Before.{rank, ranks, before}
use Rattle.generic_names.specs.Laws.{IsPattern}
use Rattle.generic_names.specs.OrderKey.{squeezed, order_key, is_lower, qualifier_ranks, qualifier_key, AreRanks}
use Rattle.generic_names.proofs.Lawful.{EachQualifier, pattern-small}
use Rattle.generic_names.proofs.OrderLaws.{first-injective}
use Rattle.generic_names.proofs.FirstLaws.{same_head}
use Rattle.generic_names.proofs.CompareLaws.{is_lt-heads, not_below_nil}
use Rattle.generic_names.proofs.KeyLaws.{squeezed-cmp-lists, pattern-ranks}

-- the first qualifier comes first
qualifiers-begin : (text : List ℕ) → (rest : List (List ℕ)) × (qualifiers text ≡ first_qualifier text ∷ rest)
qualifiers-begin [] = ([], refl)
qualifiers-begin (x ∷ xs) = by (eqb x 46) refl (qualifiers-begin xs)
  where
    first : Bool → List ℕ
    first t = take (cond (not t) (1 + position_or_len (λ b. eqb b 46) xs) 0) (x ∷ xs)

    by : (t : Bool) → eqb x 46 ≡ t → (rest : List (List ℕ)) × (qualifiers xs ≡ first_qualifier xs ∷ rest) → (rest : List (List ℕ)) × (qualifiers (x ∷ xs) ≡ first_qualifier (x ∷ xs) ∷ rest)
    by true is again = (
      qualifiers xs,
      ap (λ (t : Bool). cond t ([] ∷ qualifiers xs) (onto_first x (qualifiers xs))) is ∙ sym (ap (λ (t : Bool). first t ∷ qualifiers xs) is),
    )
    by false is again =
        let one : 1 + position_or_len (λ b. eqb b 46) xs ≡ suc (position_or_len (λ b. eqb b 46) xs) = omega arith in (
          again.0,
          slice_split-cons_no (λ b. eqb b 46) x xs is ∙ ap (λ (qs : List (List ℕ)). onto_first x qs) again.1
              ∙ sym (ap (λ (t : Bool). first t ∷ again.0) is ∙ ap (λ (n : ℕ). take n (x ∷ xs) ∷ again.0) one),
        )

-- its ranks come first, and those of the others behind them
split-ranks : (q rest : List ℕ) → cond (is_double q) (260 ∷ rest) (map rank q ++ 257 ∷ rest) ≡ qualifier_ranks q ++ rest
split-ranks q rest = settled (is_double q)
  where
    settled : (t : Bool) → cond t (260 ∷ rest) (map rank q ++ 257 ∷ rest) ≡ cond t (260 ∷ []) (map rank q ++ 257 ∷ []) ++ rest
    settled true = refl
    settled false = sym (append_assoc (map rank q) (257 ∷ []) rest)

-- The ranks of a name, from its first qualifier on.
record Begun (text : List ℕ) : Type 0 where
  pub others : List (List ℕ)
  pub whole : qualifiers text ≡ first_qualifier text ∷ others
  pub split : ranks (qualifiers text) ≡ qualifier_ranks (first_qualifier text) ++ ranks others

begun : (text : List ℕ) → Begun text
begun text =
    let found = qualifiers-begin text in
    record { others = found.0; whole = found.1; split = ap (λ (qs : List (List ℕ)). ranks qs) found.1 ∙ split-ranks (first_qualifier text) (ranks found.0) }

-- what a list begins with isn't above it
front-not-below : (front xs : List ℕ) → is_lt (slice_cmp nat_cmp (front ++ xs) front) ≡ false
front-not-below [] xs = not_below_nil xs
front-not-below (f ∷ front) xs = ap is_lt (same_head f (front ++ xs) front) ∙ front-not-below front xs

-- what lies from a front on, and before a list that begins with it, begins with it too
front-between : (front rest xs : List ℕ) → is_lt (slice_cmp nat_cmp xs front) ≡ false → is_lt (slice_cmp nat_cmp xs (front ++ rest)) ≡ true → (ys : List ℕ) × (xs ≡ front ++ ys)
front-between [] rest xs h k = (xs, refl)
front-between (f ∷ front) rest [] h k = absurd (cc (h))
front-between (f ∷ front) rest (x ∷ xs) h k = ⊎_elim
    (λ (e : x ≡ f).
    let again = front-between front rest xs
    (sym (ap is_lt (same_head f xs front)) ∙ subst (λ (z : ℕ). is_lt (slice_cmp nat_cmp (z ∷ xs) (f ∷ front)) ≡ false) e h)
    (sym (ap is_lt (same_head f xs (front ++ rest))) ∙ subst (λ (z : ℕ). is_lt (slice_cmp nat_cmp (z ∷ xs) (f ∷ (front ++ rest))) ≡ true) e k) in
    (again.0, cc (e, again.1)))
    (λ (n : x ≡ f → ⊥). absurd (
    let refused : ltb x f ≡ false = sym (is_lt-heads x f xs front n) ∙ h in
    let met : ltb x f ≡ true = sym (is_lt-heads x f xs (front ++ rest) n) ∙ k in
    cc (refused, met)))
    (cases_eq x f)

ranks-front : (xs ys : List ℕ) → AreRanks (xs ++ ys) → AreRanks xs
ranks-front [] ys h = tt
ranks-front (x ∷ xs) ys h = (h.0, ranks-front xs ys h.1)

pub first-not-lower : (a : Spelled) (q : List ℕ) → first_qualifier a.text ≡ q → is_lower a (qualifier_key q) ≡ false
first-not-lower a q is =
    let b = begun a.text in
    let key : order_key a.text ≡ qualifier_key q ++ map squeezed (ranks b.others) =
    ap (λ (some : List ℕ). map squeezed some) (b.split ∙ ap (λ (p : List ℕ). qualifier_ranks p ++ ranks b.others) is)
    ∙ map-append squeezed (qualifier_ranks q) (ranks b.others) in
    ap (λ (key : List ℕ). is_lt (slice_cmp nat_cmp key (qualifier_key q))) key ∙ front-not-below (qualifier_key q) (map squeezed (ranks b.others))

pub firsts-together : (a b : Spelled) (q : List ℕ) → IsPattern a → IsPattern b → is_lower a (qualifier_key q) ≡ false → before a b ≡ true → first_qualifier b.text ≡ q → first_qualifier a.text ≡ q
firsts-together a b q ha hb low first is =
    let these = begun a.text in
    let those = begun b.text in
    let those_are : ranks (qualifiers b.text) ≡ qualifier_ranks q ++ ranks those.others = those.split ∙ ap (λ (p : List ℕ). qualifier_ranks p ++ ranks those.others) is in
    let ranked : AreRanks (qualifier_ranks q) = ranks-front (qualifier_ranks q) (ranks those.others) (subst (λ (some : List ℕ). AreRanks some) those_are (pattern-ranks b hb)) in
    let not_below : is_lt (slice_cmp nat_cmp (ranks (qualifiers a.text)) (qualifier_ranks q)) ≡ false =
    sym (ap is_lt (squeezed-cmp-lists (ranks (qualifiers a.text)) (qualifier_ranks q) (pattern-ranks a ha) ranked)) ∙ low in
    let below : is_lt (slice_cmp nat_cmp (ranks (qualifiers a.text)) (qualifier_ranks q ++ ranks those.others)) ≡ true =
    ap (λ (some : List ℕ). is_lt (slice_cmp nat_cmp (ranks (qualifiers a.text)) some)) (sym those_are) ∙ first in
    let found = front-between (qualifier_ranks q) (ranks those.others) (ranks (qualifiers a.text)) not_below below in
    let small_a = subst (λ (qs : List (List ℕ)). EachQualifier (λ n. n < 256) qs) these.whole (pattern-small a ha) in
    let small_b = subst (λ (qs : List (List ℕ)). EachQualifier (λ n. n < 256) qs) those.whole (pattern-small b hb) in
    let same = first-injective (first_qualifier a.text) (first_qualifier b.text) (ranks these.others) found.0 small_a.0 small_b.0
    (split-ranks (first_qualifier a.text) (ranks these.others) ∙ sym these.split ∙ found.1 ∙ ap (λ (p : List ℕ). qualifier_ranks p ++ found.0) (sym is) ∙ sym (split-ranks (first_qualifier b.text) found.0)) in
    same.0 ∙ is
