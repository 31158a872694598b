-- Ranks as bytes, and how many ranks a name has.
use Rattle.std.proofs.Common.{◌≡◌, ℕ, zero, suc, ◌+◌, ◌-◌, ◌<◌, ◌≤◌, Bool, true, false, cond, ltb, List, [], ◌∷◌, ◌++◌, map, length, length-append, append_assoc, take, get_or, Ordering, refl, ap, sym, ◌∙◌, subst, arith, ⊎_elim, ◌⊎◌, inl, inr}
use Rattle.std.specs.declared.cmp.Ordering.TheVariants.{Equal}
use Rattle.std.specs.Ordering.{nat_cmp, is_lt, ordering_then}
use Rattle.std.specs.Cmp.Lexicographic.{slice_cmp, nat_list_cmp_total}
use Rattle.std.specs.FinMap.{nat_cmp-IsAntisymmetric, slice_cmp-IsAntisymmetric}
use Rattle.std.specs.List.{AllByRecursion, join_with_byte}
use Rattle.std.proofs.lemmas.Bool.{cases_eq, cases_lt}
use Rattle.std.proofs.lemmas.Bool.Decides.{nat_tests}
use Rattle.std.proofs.lemmas.List.{length-map}
use Rattle.std.proofs.lemmas.List.Splits.{join_with_byte-slice_split}
use Rattle.generic_names.specs.Spelled.{Spelled, qualifiers}
use Rattle.generic_names.specs.Covers.{is_double}
use Rattle.generic_names.specs.Before.{rank, ranks, order, before}
use Rattle.generic_names.specs.Gap.{is_below}
use Rattle.generic_names.specs.Laws.{IsPattern}
use Rattle.generic_names.specs.OrderKey.{squeezed, order_key, is_lower, IsRank, AreRanks}
use Rattle.generic_names.proofs.Lawful.{EachByte, EachQualifier, IsPlain, pattern-low, pattern-small}
use Rattle.generic_names.proofs.OrderLaws.{rank-cases, ranks-injective, qualifiers-injective, is_less, same_ties}
use Rattle.generic_names.proofs.CompareLaws.{compared}
use Rattle.generic_names.proofs.RankLaws.{rest_at-byte}
use Rattle.generic_names.proofs.GapLaws.{plain-rest}

-- A change of the elements after which any two compare as before leaves the comparison of lists as it was.
pub slice_cmp-map : (P : ℕ → Type 0) (f : ℕ → ℕ) → ((x y : ℕ) → P x → P y → nat_cmp (f x) (f y) ≡ nat_cmp x y)
    → (xs ys : List ℕ) → AllByRecursion P xs → AllByRecursion P ys → slice_cmp nat_cmp (map f xs) (map f ys) ≡ slice_cmp nat_cmp xs ys
slice_cmp-map P f same [] [] hx hy = refl
slice_cmp-map P f same [] (y ∷ ys) hx hy = refl
slice_cmp-map P f same (x ∷ xs) [] hx hy = refl
slice_cmp-map P f same (x ∷ xs) (y ∷ ys) hx hy =
    ap (λ (r : Ordering). ordering_then r (slice_cmp nat_cmp (map f xs) (map f ys))) (same x y hx.0 hy.0)
    ∙ ap (λ (r : Ordering). ordering_then (nat_cmp x y) r) (slice_cmp-map P f same xs ys hx.1 hy.1)

-- what a rank becomes
squeezed-low : (x : ℕ) → x < 256 → squeezed x ≡ x
squeezed-low x h = let test : ltb x 256 ≡ true = grind (arith, nat_tests) in rw test refl

squeezed-high : (x : ℕ) → 255 < x → squeezed x ≡ x - 5
squeezed-high x h = let test : ltb x 256 ≡ false = grind (arith, nat_tests) in rw test refl

squeezed-rises : (x y : ℕ) → IsRank x → IsRank y → x < y → squeezed x < squeezed y
squeezed-rises x y hx hy l = ⊎_elim
    (λ (lx : x < 251). let sx = squeezed-low x (omega arith) in ⊎_elim
    (λ (ly : y < 251). let sy = squeezed-low y (omega arith) in omega (arith, sx, sy))
    (λ (ly : (255 < y) × (y < 261)). let sy = squeezed-high y ly.0 in omega (arith, sx, sy, ly.0))
    hy)
    (λ (lx : (255 < x) × (x < 261)). let sx = squeezed-high x lx.0 in let sy = squeezed-high y (omega (arith, lx.0)) in omega (arith, sx, sy, lx.0))
    hx

squeezed-cmp : (x y : ℕ) → IsRank x → IsRank y → nat_cmp (squeezed x) (squeezed y) ≡ nat_cmp x y
squeezed-cmp x y hx hy = ⊎_elim
    (λ (l : x < y). (compared (squeezed x) (squeezed y)).less (squeezed-rises x y hx hy l) ∙ sym ((compared x y).less l))
    (λ (m : y ≤ x). ⊎_elim
    (λ (e : x ≡ y). (compared (squeezed x) (squeezed y)).same (ap (λ (z : ℕ). squeezed z) e) ∙ sym ((compared x y).same e))
    (λ (n : x ≡ y → ⊥). let more : y < x = omega arith in (compared (squeezed x) (squeezed y)).more (squeezed-rises y x hy hx more) ∙ sym ((compared x y).more more))
    (cases_eq x y))
    (cases_lt x y)

pub squeezed-cmp-lists : (xs ys : List ℕ) → AreRanks xs → AreRanks ys → slice_cmp nat_cmp (map squeezed xs) (map squeezed ys) ≡ slice_cmp nat_cmp xs ys
squeezed-cmp-lists xs ys hx hy = slice_cmp-map (λ r. IsRank r) (λ r. squeezed r) squeezed-cmp xs ys hx hy

-- the ranks of a pattern
low-rank : (b : ℕ) → b < 251 → IsRank (rank b)
low-rank b low = ⊎_elim
    (λ (p : (b ≡ 37) × (rank b ≡ 256)). inr (omega (arith, p.1), omega (arith, p.1)))
    (λ (r : ((b ≡ 42) × (rank b ≡ 258)) ⊎ (rank b ≡ b)). ⊎_elim
    (λ (p : (b ≡ 42) × (rank b ≡ 258)). inr (omega (arith, p.1), omega (arith, p.1)))
    (λ (p : rank b ≡ b). inl (omega (arith, p)))
    r)
    (rank-cases b (omega arith))

behind-qualifier : (q rest : List ℕ) → EachByte (λ b. b < 251) q → AreRanks rest → AreRanks (map rank q ++ 257 ∷ rest)
behind-qualifier [] rest low h = (inr (omega arith, omega arith), h)
behind-qualifier (b ∷ q) rest low h = (low-rank b low.0, behind-qualifier q rest low.1 h)

are-ranks : (qs : List (List ℕ)) → EachQualifier (λ b. b < 251) qs → AreRanks (ranks qs)
are-ranks [] low = (inr (omega arith, omega arith), tt)
are-ranks (q ∷ qs) low = settled (is_double q) (are-ranks qs low.1)
  where
    settled : (t : Bool) → AreRanks (ranks qs) → AreRanks (cond t (260 ∷ ranks qs) (map rank q ++ 257 ∷ ranks qs))
    settled true again = (inr (omega arith, omega arith), again)
    settled false again = behind-qualifier q (ranks qs) low.0 again

pub pattern-ranks : (name : Spelled) → IsPattern name → AreRanks (ranks (qualifiers name.text))
pattern-ranks name h = are-ranks (qualifiers name.text) (pattern-low name h)

-- the laws
pub keys-compare : (a b : Spelled) → IsPattern a → IsPattern b → slice_cmp nat_cmp (order_key a.text) (order_key b.text) ≡ order a b
keys-compare a b ha hb = squeezed-cmp-lists (ranks (qualifiers a.text)) (ranks (qualifiers b.text)) (pattern-ranks a ha) (pattern-ranks b hb)

pub lower-before : (a b : Spelled) → IsPattern a → IsPattern b → is_lower a (order_key b.text) ≡ before a b
lower-before a b ha hb = ap is_lt (keys-compare a b ha hb)

pub lower-below : (a : Spelled) (gap : List ℕ) → IsPattern a → AreRanks gap → is_lower a (map squeezed gap) ≡ is_below a gap
lower-below a gap ha hg = ap is_lt (squeezed-cmp-lists (ranks (qualifiers a.text)) gap (pattern-ranks a ha) hg)

pub lower-passed_on : (a b : Spelled) (key : List ℕ) → IsPattern a → IsPattern b → before a b ≡ true → is_lower b key ≡ true → is_lower a key ≡ true
lower-passed_on a b key ha hb first low =
    let keys : is_lower a (order_key b.text) ≡ true = lower-before a b ha hb ∙ first in
    ap is_lt (nat_list_cmp_total.trans (order_key a.text) (order_key b.text) key (is_less _ keys) (is_less _ low))

pub not-lower-passed_on : (a b : Spelled) (key : List ℕ) → IsPattern a → IsPattern b → before a b ≡ true → is_lower a key ≡ false → is_lower b key ≡ false
not-lower-passed_on a b key ha hb first high = settled (is_lower b key) refl
  where
    settled : (t : Bool) → is_lower b key ≡ t → t ≡ false
    settled false is = refl
    settled true is = absurd (let low : is_lower a key ≡ true = lower-passed_on a b key ha hb first is in cc (low, high))

pub equal-keys : (a b : Spelled) → IsPattern a → IsPattern b → order_key a.text ≡ order_key b.text → a.text ≡ b.text
equal-keys a b ha hb e =
    let tie : order a b ≡ Equal = sym (keys-compare a b ha hb) ∙ ap (λ (k : List ℕ). slice_cmp nat_cmp k (order_key b.text)) e ∙ same_ties (order_key b.text) in
    let same = slice_cmp-IsAntisymmetric nat_cmp-IsAntisymmetric (ranks (qualifiers a.text)) (ranks (qualifiers b.text)) tie in
    qualifiers-injective a.text b.text (ranks-injective (qualifiers a.text) (qualifiers b.text) (pattern-small a ha) (pattern-small b hb) same)

-- a name has two ranks more than bytes, or fewer
qualifier-length : (q rest : List ℕ) → length (map rank q ++ 257 ∷ rest) ≡ length q + suc (length rest)
qualifier-length q rest = length-append (map rank q) (257 ∷ rest) ∙ ap (λ (n : ℕ). n + suc (length rest)) (length-map q rank)

ranks-joined : (qs : List (List ℕ)) → length (ranks qs) ≤ length (join_with_byte 46 qs) + 2
ranks-joined [] = omega arith
ranks-joined (q ∷ []) = settled (is_double q)
  where
    settled : (t : Bool) → length (cond t (260 ∷ ranks []) (map rank q ++ 257 ∷ ranks [])) ≤ length q + 2
    settled true = omega arith
    settled false = let size = qualifier-length q (ranks []) in omega (arith, size)
ranks-joined (q ∷ p ∷ qs) = settled (is_double q) (ranks-joined (p ∷ qs))
  where
    settled : (t : Bool) → length (ranks (p ∷ qs)) ≤ length (join_with_byte 46 (p ∷ qs)) + 2 → length (cond t (260 ∷ ranks (p ∷ qs)) (map rank q ++ 257 ∷ ranks (p ∷ qs))) ≤ length (q ++ 46 ∷ join_with_byte 46 (p ∷ qs)) + 2
    settled true again =
        let whole = length-append q (46 ∷ join_with_byte 46 (p ∷ qs)) in
        omega (arith, again, whole)
    settled false again =
        let whole = length-append q (46 ∷ join_with_byte 46 (p ∷ qs)) in
        let size = qualifier-length q (ranks (p ∷ qs)) in
        omega (arith, again, whole, size)

pub ranks-length : (text : List ℕ) → length (ranks (qualifiers text)) ≤ length text + 2
ranks-length text = subst (λ (xs : List ℕ). length (ranks (qualifiers text)) ≤ length xs + 2) (join_with_byte-slice_split 46 text) (ranks-joined (qualifiers text))

-- the front of some ranks, and a rank behind it
pub front-ranks : (count least : ℕ) (some : List ℕ) → AreRanks some → IsRank least → AreRanks (take count some ++ least ∷ [])
front-ranks zero least some h last = (last, tt)
front-ranks (suc count) least [] h last = (last, tt)
front-ranks (suc count) least (r ∷ some) h last = (h.0, front-ranks count least some h.1 last)

-- the byte of a name of a resource is a rank
pub plain-byte : (text : List ℕ) (at : ℕ) → EachQualifier IsPlain (qualifiers text) → at < length text → get_or text at 0 < 251
plain-byte text at plain h = ⊎_elim
    (λ (e : get_or text at 0 ≡ 46). omega arith)
    (λ (n : get_or text at 0 ≡ 46 → ⊥).
    let found = rest_at-byte text at h n in
    let here = subst (λ (qs : List (List ℕ)). EachQualifier IsPlain qs) found.2 (plain-rest text at plain) in
    here.0.0.low)
    (cases_eq (get_or text at 0) 46)

-- the keys of the first ranks, as a loop takes them
pub key-step : (all key : List ℕ) (k r : ℕ) (old new : List ℕ) → 0 < k → old ≡ r ∷ new → all ≡ key ++ map squeezed (take k old)
    → all ≡ (key ++ squeezed r ∷ []) ++ map squeezed (take (k - 1) new)
key-step all key k r old new some is same =
    let one : k ≡ suc (k - 1) = omega arith in
    same
    ∙ ap (λ (n : ℕ). key ++ map squeezed (take n old)) one
    ∙ ap (λ (xs : List ℕ). key ++ map squeezed (take (suc (k - 1)) xs)) is
    ∙ sym (append_assoc key (squeezed r ∷ []) (map squeezed (take (k - 1) new)))
