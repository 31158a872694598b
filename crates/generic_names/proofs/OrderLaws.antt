-- The order of specificity.
use Rattle.std.proofs.Common.{◌≡◌, ◌≢◌, ℕ, ◌<◌, Bool, true, false, cond, eqb, List, [], ◌∷◌, ◌++◌, map, Ordering, refl, ap, sym, ◌∙◌, arith, ⊎_elim, ◌⊎◌, inl, inr}
use Rattle.std.specs.declared.cmp.Ordering.TheVariants.{Less, Equal, Greater}
use Rattle.std.specs.Ordering.{nat_cmp, is_lt, ordering_then, ordering_reverse}
use Rattle.std.specs.Cmp.Lexicographic.{slice_cmp, nat_list_cmp_total}
use Rattle.std.specs.FinMap.{nat_cmp-IsAntisymmetric, slice_cmp-IsAntisymmetric}
use Rattle.std.specs.List.{join_with_byte}
use Rattle.std.proofs.lemmas.Bool.Decides.{nat_tests}
use Rattle.std.proofs.lemmas.Slice.Eq.{bytes_eq-Decides}
use Rattle.std.proofs.lemmas.List.Splits.{join_with_byte-slice_split}
use Rattle.generic_names.specs.declared.kind.NameKind.{NameKind}
use Rattle.generic_names.specs.Spelled.{Spelled, qualifiers}
use Rattle.generic_names.specs.Covers.{is_double}
use Rattle.generic_names.specs.Before.{rank, ranks, before, order}
use Rattle.generic_names.specs.Laws.{IsPattern}
use Rattle.generic_names.proofs.Lawful.{EachByte, EachQualifier, pattern-small}

-- which bytes a rank comes from
pub rank-cases : (b : ℕ) → b < 256 → ((b ≡ 37) × (rank b ≡ 256)) ⊎ (((b ≡ 42) × (rank b ≡ 258)) ⊎ (rank b ≡ b))
rank-cases b h = settled (eqb b 37) (eqb b 42) refl refl
  where
    settled : (s t : Bool) → eqb b 37 ≡ s → eqb b 42 ≡ t → ((b ≡ 37) × (cond s 256 (cond t 258 b) ≡ 256)) ⊎ (((b ≡ 42) × (cond s 256 (cond t 258 b) ≡ 258)) ⊎ (cond s 256 (cond t 258 b) ≡ b))
    settled true t is at = inl ((grind (arith, nat_tests)), refl)
    settled false true is at = inr (inl ((grind (arith, nat_tests)), refl))
    settled false false is at = inr (inr refl)

pub rank-other : (b : ℕ) → b < 256 → (rank b ≢ 257) × (rank b ≢ 259) × (rank b ≢ 260)
rank-other b h = ⊎_elim
    (λ (p : (b ≡ 37) × (rank b ≡ 256)). ((λ e. omega (arith, p.1)), (λ e. omega (arith, p.1)), (λ e. omega (arith, p.1))))
    (λ (r : ((b ≡ 42) × (rank b ≡ 258)) ⊎ (rank b ≡ b)). ⊎_elim
    (λ (p : (b ≡ 42) × (rank b ≡ 258)). ((λ e. omega (arith, p.1)), (λ e. omega (arith, p.1)), (λ e. omega (arith, p.1))))
    (λ (p : rank b ≡ b). ((λ e. omega (arith, p)), (λ e. omega (arith, p)), (λ e. omega (arith, p))))
    r)
    (rank-cases b h)

rank-injective : (a b : ℕ) → a < 256 → b < 256 → rank a ≡ rank b → a ≡ b
rank-injective a b ha hb e =
    let ca : ((a ≡ 37) × (rank a ≡ 256)) ⊎ (((a ≡ 42) × (rank a ≡ 258)) ⊎ (rank a ≡ a)) = rank-cases a ha in
    let cb : ((b ≡ 37) × (rank b ≡ 256)) ⊎ (((b ≡ 42) × (rank b ≡ 258)) ⊎ (rank b ≡ b)) = rank-cases b hb in
    grind (arith, ca, cb)

-- one qualifier and what stands behind it
qualifier-injective : (p q xs ys : List ℕ) → EachByte (λ b. b < 256) p → EachByte (λ b. b < 256) q → map rank p ++ 257 ∷ xs ≡ map rank q ++ 257 ∷ ys → (p ≡ q) × (xs ≡ ys)
qualifier-injective [] [] xs ys hp hq e = (refl, (cc))
qualifier-injective [] (b ∷ q) xs ys hp hq e = let head : rank b ≡ 257 = (cc) in absurd ((rank-other b hq.0).0 head)
qualifier-injective (a ∷ p) [] xs ys hp hq e = let head : rank a ≡ 257 = (cc) in absurd ((rank-other a hp.0).0 head)
qualifier-injective (a ∷ p) (b ∷ q) xs ys hp hq e =
    let head : rank a ≡ rank b = (cc) in
    let tail : map rank p ++ 257 ∷ xs ≡ map rank q ++ 257 ∷ ys = (cc) in
    let same : a ≡ b = rank-injective a b hp.0 hq.0 head in
    let rest = qualifier-injective p q xs ys hp.1 hq.1 tail in
    ((cc (same, rest.0)), rest.1)

not-end : (q xs ys : List ℕ) (double : Bool) → EachByte (λ b. b < 256) q → cond double (260 ∷ xs) (map rank q ++ 257 ∷ ys) ≡ 259 ∷ [] → ⊥
not-end q xs ys true h e = absurd (let head : ◌≡◌ {A = ℕ} 260 259 = (cc) in omega arith)
not-end [] xs ys false h e = absurd (let head : ◌≡◌ {A = ℕ} 257 259 = (cc) in omega arith)
not-end (b ∷ q) xs ys false h e = let head : rank b ≡ 259 = (cc) in absurd ((rank-other b h.0).1 head)

not-double : (q xs ys : List ℕ) → EachByte (λ b. b < 256) q → map rank q ++ 257 ∷ ys ≡ 260 ∷ xs → ⊥
not-double [] xs ys h e = absurd (let head : ◌≡◌ {A = ℕ} 257 260 = (cc) in omega arith)
not-double (b ∷ q) xs ys h e = let head : rank b ≡ 260 = (cc) in absurd ((rank-other b h.0).2 head)

-- the ranks of the first qualifier tell it, and those behind them the others
pub first-injective : (p q xs ys : List ℕ) → EachByte (λ b. b < 256) p → EachByte (λ b. b < 256) q → cond (is_double p) (260 ∷ xs) (map rank p ++ 257 ∷ xs) ≡ cond (is_double q) (260 ∷ ys) (map rank q ++ 257 ∷ ys) → (p ≡ q) × (xs ≡ ys)
first-injective p q xs ys hp hq e = settled (is_double p) (is_double q) refl refl e
  where
    settled : (s t : Bool) → is_double p ≡ s → is_double q ≡ t → cond s (260 ∷ xs) (map rank p ++ 257 ∷ xs) ≡ cond t (260 ∷ ys) (map rank q ++ 257 ∷ ys) → (p ≡ q) × (xs ≡ ys)
    settled true true dp dq e = ((bytes_eq-Decides p (42 ∷ 42 ∷ [])).0 dp ∙ sym ((bytes_eq-Decides q (42 ∷ 42 ∷ [])).0 dq), (cc))
    settled true false dp dq e = absurd (not-double q xs ys hq (sym e))
    settled false true dp dq e = absurd (not-double p ys xs hp e)
    settled false false dp dq e = qualifier-injective p q xs ys hp hq e

-- different qualifiers have different ranks
pub ranks-injective : (ps qs : List (List ℕ)) → EachQualifier (λ b. b < 256) ps → EachQualifier (λ b. b < 256) qs → ranks ps ≡ ranks qs → ps ≡ qs
ranks-injective [] [] hp hq e = refl
ranks-injective [] (q ∷ qs) hp hq e = absurd (not-end q (ranks qs) (ranks qs) (is_double q) hq.0 (sym e))
ranks-injective (p ∷ ps) [] hp hq e = absurd (not-end p (ranks ps) (ranks ps) (is_double p) hp.0 e)
ranks-injective (p ∷ ps) (q ∷ qs) hp hq e =
    let both = first-injective p q (ranks ps) (ranks qs) hp.0 hq.0 e in
    let first : p ≡ q = both.0 in
    let rest : ps ≡ qs = ranks-injective ps qs hp.1 hq.1 both.1 in
    (cc)

-- a text is its qualifiers, joined
pub qualifiers-injective : (xs ys : List ℕ) → qualifiers xs ≡ qualifiers ys → xs ≡ ys
qualifiers-injective xs ys e = sym (join_with_byte-slice_split 46 xs) ∙ ap (λ (qs : List (List ℕ)). join_with_byte 46 qs) e ∙ join_with_byte-slice_split 46 ys

pub same_spelled : (a b : Spelled) → a.kind ≡ b.kind → a.text ≡ b.text → a ≡ b
same_spelled a b kind text = ap (λ (k : NameKind). made k a.text) kind ∙ ap (λ (xs : List ℕ). made b.kind xs) text
  where
    made : NameKind → List ℕ → Spelled
    made k xs = record { kind = k; text = xs }

pub is_less : (r : Ordering) → is_lt r ≡ true → r ≡ Less
is_less Less h = refl
is_less Equal h = absurd (cc (h))
is_less Greater h = absurd (cc (h))

pub one_is_before : (a b : Spelled) → IsPattern a → IsPattern b → a.kind ≡ b.kind → (a ≡ b) ⊎ ((before a b ≡ true) ⊎ (before b a ≡ true))
one_is_before a b ha hb kind = settled (slice_cmp nat_cmp (ranks (qualifiers a.text)) (ranks (qualifiers b.text))) refl
  where
    settled : (r : Ordering) → slice_cmp nat_cmp (ranks (qualifiers a.text)) (ranks (qualifiers b.text)) ≡ r → (a ≡ b) ⊎ ((before a b ≡ true) ⊎ (before b a ≡ true))
    settled Less is = inr (inl (ap is_lt is))
    settled Equal is =
        let same = slice_cmp-IsAntisymmetric nat_cmp-IsAntisymmetric (ranks (qualifiers a.text)) (ranks (qualifiers b.text)) is in
        inl (same_spelled a b kind (qualifiers-injective a.text b.text (ranks-injective (qualifiers a.text) (qualifiers b.text) (pattern-small a ha) (pattern-small b hb) same)))
    settled Greater is = inr (inr (ap is_lt (nat_list_cmp_total.antisymm (ranks (qualifiers b.text)) (ranks (qualifiers a.text)) ∙ ap ordering_reverse is)))

pub not_both : (a b : Spelled) → before a b ≡ true → before b a ≡ false
not_both a b h = ap is_lt (nat_list_cmp_total.antisymm (ranks (qualifiers b.text)) (ranks (qualifiers a.text)) ∙ ap ordering_reverse (is_less _ h))

pub passed_on : (a b c : Spelled) → before a b ≡ true → before b c ≡ true → before a c ≡ true
passed_on a b c ab bc = ap is_lt (nat_list_cmp_total.trans (ranks (qualifiers a.text)) (ranks (qualifiers b.text)) (ranks (qualifiers c.text)) (is_less _ ab) (is_less _ bc))

-- no name is before itself
pub irreflexive : (a : Spelled) → before a a ≡ false
irreflexive a = settled (before a a) refl
  where
    settled : (t : Bool) → before a a ≡ t → t ≡ false
    settled true is = sym is ∙ not_both a a is
    settled false is = refl

pub ties_are_equal : (a b : Spelled) → IsPattern a → IsPattern b → a.kind ≡ b.kind → order a b ≡ Equal → a ≡ b
ties_are_equal a b ha hb kind is =
    let same = slice_cmp-IsAntisymmetric nat_cmp-IsAntisymmetric (ranks (qualifiers a.text)) (ranks (qualifiers b.text)) is in
    same_spelled a b kind (qualifiers-injective a.text b.text (ranks-injective (qualifiers a.text) (qualifiers b.text) (pattern-small a ha) (pattern-small b hb) same))

pub same_ties : (xs : List ℕ) → slice_cmp nat_cmp xs xs ≡ Equal
same_ties [] = refl
same_ties (x ∷ xs) = let equal : nat_cmp x x ≡ Equal = grind (arith, nat_tests) in ap (λ (r : Ordering). ordering_then r (slice_cmp nat_cmp xs xs)) equal ∙ same_ties xs

pub equals_tie : (a : Spelled) → order a a ≡ Equal
equals_tie a = same_ties (ranks (qualifiers a.text))

pub gap_closed : (a b : Spelled) (gap : List ℕ) → before a b ≡ true → is_lt (slice_cmp nat_cmp (ranks (qualifiers b.text)) gap) ≡ true → is_lt (slice_cmp nat_cmp (ranks (qualifiers a.text)) gap) ≡ true
gap_closed a b gap ab below = ap is_lt (nat_list_cmp_total.trans (ranks (qualifiers a.text)) (ranks (qualifiers b.text)) gap (is_less _ ab) (is_less _ below))

-- what comes behind is that before which the other comes
pub before-from-greater : (a b : Spelled) → order a b ≡ Greater → before b a ≡ true
before-from-greater a b is =
    ap is_lt (nat_list_cmp_total.antisymm (ranks (qualifiers b.text)) (ranks (qualifiers a.text)) ∙ ap ordering_reverse is)
