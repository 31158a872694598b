-- The profile of the very name comes first.
use Rattle.std.proofs.Common.{◌≡◌, ◌≢◌, ℕ, suc, ◌-◌, ◌<◌, Bool, true, false, cond, not, ◌&&◌, ◌||◌, eqb, List, [], ◌∷◌, ◌++◌, map, length, take, get_or, Ordering, append-nil, refl, ap, sym, ◌∙◌, subst, arith, ⊎_elim, ◌⊎◌, inl, inr}
use Rattle.std.specs.declared.cmp.Ordering.TheVariants.{Less, Equal}
use Rattle.std.specs.Ordering.{nat_cmp, is_lt, ordering_then}
use Rattle.std.specs.Cmp.Lexicographic.{slice_cmp}
use Rattle.std.specs.List.{join_with_byte, onto_first}
use Rattle.std.proofs.lemmas.Bool.Decides.{nat_tests}
use Rattle.std.proofs.lemmas.Slice.Eq.{bytes_eq-Decides}
use Rattle.generic_names.specs.declared.kind.NameKind.{NameKind}
use Rattle.generic_names.specs.declared.kind.NameKind.TheVariants.{DataSet, General}
use Rattle.generic_names.specs.Spelled.{Spelled, qualifiers, is_empty}
use Rattle.generic_names.specs.Covers.{is_double, is_final, is_open, matches, begins, covers_all, covers}
use Rattle.generic_names.specs.Before.{rank, ranks, before}
use Rattle.generic_names.specs.Laws.{IsResource}
use Rattle.generic_names.proofs.Lawful.{EachByte, EachQualifier, IsPlain, resource-plain}
use Rattle.generic_names.proofs.CoverLaws.{covers_all-open, covers_all-one, covers_all-none}
use Rattle.generic_names.proofs.OrderLaws.{qualifiers-injective, same_spelled}
use Rattle.generic_names.proofs.Bools.{either, both}

-- lists that differ in their heads, and such that don't
pub less_head : (x y : ℕ) (xs ys : List ℕ) → x < y → slice_cmp nat_cmp (x ∷ xs) (y ∷ ys) ≡ Less
less_head x y xs ys h = let less : nat_cmp x y ≡ Less = grind (arith, nat_tests) in ap (λ (r : Ordering). ordering_then r (slice_cmp nat_cmp xs ys)) less

pub same_head : (x : ℕ) (xs ys : List ℕ) → slice_cmp nat_cmp (x ∷ xs) (x ∷ ys) ≡ slice_cmp nat_cmp xs ys
same_head x xs ys = let equal : nat_cmp x x ≡ Equal = grind (arith, nat_tests) in ap (λ (r : Ordering). ordering_then r (slice_cmp nat_cmp xs ys)) equal

-- lists with one front
pub same_front : (zs xs ys : List ℕ) → slice_cmp nat_cmp (zs ++ xs) (zs ++ ys) ≡ slice_cmp nat_cmp xs ys
same_front [] xs ys = refl
same_front (z ∷ zs) xs ys = same_head z (zs ++ xs) (zs ++ ys) ∙ same_front zs xs ys

pub plain-rank : (b : ℕ) → IsPlain b → rank b ≡ b
plain-rank b p =
    let percent : eqb b 37 ≡ false = (let n : b ≢ 37 = p.no_percent in grind (arith, nat_tests)) in
    let asterisk : eqb b 42 ≡ false = (let n : b ≢ 42 = p.no_asterisk in grind (arith, nat_tests)) in
    rw (percent, asterisk) refl

pub plain-single : (q : List ℕ) → EachByte IsPlain q → is_double q ≡ false
plain-single q h = settled (is_double q) refl
  where
    settled : (t : Bool) → is_double q ≡ t → t ≡ false
    settled false is = refl
    settled true is =
        let same : q ≡ 42 ∷ 42 ∷ [] = (bytes_eq-Decides q (42 ∷ 42 ∷ [])).0 is in
        let first : EachByte IsPlain (42 ∷ 42 ∷ []) = subst (λ (xs : List ℕ). EachByte IsPlain xs) same h in
        absurd (first.0.no_asterisk refl)

-- the ranks of a name without generic characters
plain-ranks : (q : List ℕ) (qs : List (List ℕ)) → EachByte IsPlain q → ranks (q ∷ qs) ≡ map rank q ++ 257 ∷ ranks qs
plain-ranks q qs h = ap (λ (t : Bool). cond t (260 ∷ ranks qs) (map rank q ++ 257 ∷ ranks qs)) (plain-single q h)

single-ranks : (q : List ℕ) (qs : List (List ℕ)) → is_double q ≡ false → ranks (q ∷ qs) ≡ map rank q ++ 257 ∷ ranks qs
single-ranks q qs h = ap (λ (t : Bool). cond t (260 ∷ ranks qs) (map rank q ++ 257 ∷ ranks qs)) h

below-double : (ns : List (List ℕ)) (xs : List ℕ) → EachQualifier IsPlain ns → slice_cmp nat_cmp (ranks ns) (260 ∷ xs) ≡ Less
below-double [] xs h = less_head 259 260 [] xs (omega arith)
below-double ([] ∷ ns) xs h = less_head 257 260 (ranks ns) xs (omega arith)
below-double ((b ∷ n) ∷ ns) xs h =
    let same = plain-rank b h.0.0 in
    let low : b < 256 = h.0.0.small in
    rw (plain-ranks (b ∷ n) ns h.0) (less_head (rank b) 260 (map rank n ++ 257 ∷ ranks ns) xs (omega (arith, same)))

pub is_nil : (xs : List ℕ) → is_empty xs ≡ true → xs ≡ []
is_nil [] h = refl
is_nil (x ∷ xs) h = absurd (cc (h))

pub equal_byte : (a b : ℕ) → eqb a b ≡ true → a ≡ b
equal_byte a b h = grind (arith, nat_tests)

-- a final `*` comes behind every byte and behind the end of a qualifier
below-final : (a : ℕ) (p : List ℕ) (x : ℕ) (xs ys : List ℕ) → is_final a p ≡ true → x < 258 → slice_cmp nat_cmp (x ∷ xs) (map rank (a ∷ p) ++ ys) ≡ Less
below-final a p x xs ys final low = both (eqb a 42) (is_empty p) final
    (λ star _. let same : a ≡ 42 = equal_byte a 42 star in
    subst (λ (c : ℕ). slice_cmp nat_cmp (x ∷ xs) (map rank (c ∷ p) ++ ys) ≡ Less) (sym same) (less_head x 258 xs (map rank p ++ ys) low))

-- a qualifier that matches another is the same, or comes behind it
pub matches-first : (p n xs ys : List ℕ) → EachByte IsPlain n → matches p n ≡ true → (p ≡ n) ⊎ (slice_cmp nat_cmp (map rank n ++ 257 ∷ xs) (map rank p ++ 257 ∷ ys) ≡ Less)
matches-first [] [] xs ys h m = inl refl
matches-first [] (b ∷ n) xs ys h m = absurd (cc (m))
matches-first (a ∷ p) [] xs ys h m = inr (below-final a p 257 xs (257 ∷ ys) m (omega arith))
matches-first (a ∷ p) (b ∷ n) xs ys h m =
    let again = matches-first p n xs ys h.1 in
    let value = plain-rank b h.0 in
    let low : b < 256 = h.0.small in
    let small : rank b < 258 = omega (arith, value) in
    either (is_final a p) (((eqb a 37) || (eqb a b)) && matches p n) m
    (λ final. inr (below-final a p (rank b) (map rank n ++ 257 ∷ xs) (257 ∷ ys) final small))
    (λ rest. both ((eqb a 37) || (eqb a b)) (matches p n) rest
    (λ fits like. either (eqb a 37) (eqb a b) fits
    (λ any. let same : a ≡ 37 = equal_byte a 37 any in
    let less : rank b < 256 = omega (arith, value) in
    inr (subst (λ (c : ℕ). slice_cmp nat_cmp (rank b ∷ (map rank n ++ 257 ∷ xs)) (rank c ∷ (map rank p ++ 257 ∷ ys)) ≡ Less) (sym same) (less_head (rank b) 256 (map rank n ++ 257 ∷ xs) (map rank p ++ 257 ∷ ys) less)))
    (λ one. let same : a ≡ b = equal_byte a b one in
    ⊎_elim (λ (e : p ≡ n). inl (cc (same, e)))
    (λ (e : slice_cmp nat_cmp (map rank n ++ 257 ∷ xs) (map rank p ++ 257 ∷ ys) ≡ Less).
    inr (subst (λ (c : ℕ). slice_cmp nat_cmp (rank b ∷ (map rank n ++ 257 ∷ xs)) (rank c ∷ (map rank p ++ 257 ∷ ys)) ≡ Less) (sym same) (same_head (rank b) (map rank n ++ 257 ∷ xs) (map rank p ++ 257 ∷ ys) ∙ e)))
    (again like))))

-- what stands before the last byte, and that byte
abbrev pub front : List ℕ → List ℕ
front [] = []
front (a ∷ []) = []
front (a ∷ c ∷ p) = a ∷ front (c ∷ p)

abbrev pub last : List ℕ → ℕ
last [] = 0
last (a ∷ []) = a
last (a ∷ c ∷ p) = last (c ∷ p)

pub front-take : (p : List ℕ) → take (length p - 1) p ≡ front p
front-take [] = refl
front-take (a ∷ []) = refl
front-take (a ∷ c ∷ p) =
    let outer : length (a ∷ c ∷ p) - 1 ≡ suc (length p) = omega arith in
    let inner : length (c ∷ p) - 1 ≡ length p = omega arith in
    ap (λ (k : ℕ). take k (a ∷ c ∷ p)) outer ∙ ap (λ (q : List ℕ). a ∷ q) (ap (λ (k : ℕ). take k (c ∷ p)) (sym inner) ∙ front-take (c ∷ p))

pub last-get : (p : List ℕ) → get_or p (length p - 1) 0 ≡ last p
last-get [] = refl
last-get (a ∷ []) = refl
last-get (a ∷ c ∷ p) =
    let outer : length (a ∷ c ∷ p) - 1 ≡ suc (length p) = omega arith in
    let inner : length (c ∷ p) - 1 ≡ length p = omega arith in
    ap (λ (k : ℕ). get_or (a ∷ c ∷ p) k 0) outer ∙ ap (λ (k : ℕ). get_or (c ∷ p) k 0) (sym inner) ∙ last-get (c ∷ p)

-- the text behind a qualifier: nothing, or a period and the rest
abbrev pub IsBehind : List ℕ → Type 0
IsBehind more = (more ≡ []) ⊎ ((rest : List ℕ) × (more ≡ 46 ∷ rest))

pub no-match : (a : ℕ) (f more : List ℕ) → a ≢ 46 → IsBehind more → begins (a ∷ f) more ≡ true → ⊥
no-match a f more other ends m = ⊎_elim
    (λ (none : more ≡ []). let e : begins (a ∷ f) [] ≡ true = subst (λ (xs : List ℕ). begins (a ∷ f) xs ≡ true) none m in absurd (cc (e)))
    (λ (some : (rest : List ℕ) × (more ≡ 46 ∷ rest)).
    let e : begins (a ∷ f) (46 ∷ some.0) ≡ true = subst (λ (xs : List ℕ). begins (a ∷ f) xs ≡ true) some.1 m in
    both (cond (eqb a 37) false (eqb a 46)) (begins f some.0) e
    (λ one _. settled (eqb a 37) (eqb a 46) refl one))
    ends
  where
    settled : (s t : Bool) → eqb a 46 ≡ t → cond s false t ≡ true → ⊥
    settled true t is e = absurd (cc (e))
    settled false true is e = other (equal_byte a 46 is)
    settled false false is e = absurd (cc (e))

pub one_byte : (t : Bool) (a b : ℕ) → eqb a 37 ≡ t → cond t (not (eqb b 46)) (eqb a b) ≡ true → (a ≡ 37) ⊎ (a ≡ b)
one_byte true a b is e = inl (equal_byte a 37 is)
one_byte false a b is e = inr (equal_byte a b e)

-- a qualifier that takes the rest of a text comes behind the one that the text begins with
open-front : (p n more xs ys : List ℕ) → EachByte IsPlain n → EachByte (λ b. b ≢ 46) p → IsBehind more → last p ≡ 42 → begins (front p) (n ++ more) ≡ true → slice_cmp nat_cmp (map rank n ++ 257 ∷ xs) (map rank p ++ 257 ∷ ys) ≡ Less
open-front [] n more xs ys h low ends star m = absurd (let e : ◌≡◌ {A = ℕ} 0 42 = star in omega arith)
open-front (a ∷ []) [] more xs ys h low ends star m = rw star (less_head 257 258 xs (257 ∷ ys) (omega arith))
open-front (a ∷ []) (b ∷ n) more xs ys h low ends star m =
    let value = plain-rank b h.0 in
    let small : b < 256 = h.0.small in
    rw star (less_head (rank b) 258 (map rank n ++ 257 ∷ xs) (257 ∷ ys) (omega (arith, value)))
open-front (a ∷ c ∷ p) [] more xs ys h low ends star m = absurd (no-match a (front (c ∷ p)) more low.0 ends m)
open-front (a ∷ c ∷ p) (b ∷ n) more xs ys h low ends star m =
    let again = open-front (c ∷ p) n more xs ys h.1 low.1 ends star in
    let value = plain-rank b h.0 in
    let small : b < 256 = h.0.small in
    both (cond (eqb a 37) (not (eqb b 46)) (eqb a b)) (begins (front (c ∷ p)) (n ++ more)) m
    (λ fits rest. ⊎_elim
    (λ (any : a ≡ 37).
    let less : rank b < 256 = omega (arith, value) in
    subst (λ (d : ℕ). slice_cmp nat_cmp (rank b ∷ (map rank n ++ 257 ∷ xs)) (rank d ∷ (map rank (c ∷ p) ++ 257 ∷ ys)) ≡ Less) (sym any) (less_head (rank b) 256 (map rank n ++ 257 ∷ xs) (map rank (c ∷ p) ++ 257 ∷ ys) less))
    (λ (one : a ≡ b).
    subst (λ (d : ℕ). slice_cmp nat_cmp (rank b ∷ (map rank n ++ 257 ∷ xs)) (rank d ∷ (map rank (c ∷ p) ++ 257 ∷ ys)) ≡ Less) (sym one) (same_head (rank b) (map rank n ++ 257 ∷ xs) (map rank (c ∷ p) ++ 257 ∷ ys) ∙ again rest))
    (one_byte (eqb a 37) a b refl fits))

-- the bytes of qualifiers are no periods
onto-each : (x : ℕ) (qs : List (List ℕ)) → x ≢ 46 → EachQualifier (λ b. b ≢ 46) qs → EachQualifier (λ b. b ≢ 46) (onto_first x qs)
onto-each x [] h each = ((h, tt), tt)
onto-each x (q ∷ qs) h each = ((h, each.0), each.1)

pub no-periods : (xs : List ℕ) → EachQualifier (λ b. b ≢ 46) (qualifiers xs)
no-periods [] = (tt, tt)
no-periods (x ∷ xs) = settled (no-periods xs) (eqb x 46) refl
  where
    settled : EachQualifier (λ b. b ≢ 46) (qualifiers xs) → (t : Bool) → eqb x 46 ≡ t → EachQualifier (λ b. b ≢ 46) (cond t ([] ∷ qualifiers xs) (onto_first x (qualifiers xs)))
    settled each true is = (tt, each)
    settled each false is = onto-each x (qualifiers xs) (let other : x ≢ 46 = grind (arith, nat_tests) in other) each

-- a text is its first qualifier and what stands behind it
pub behind-first : (n : List ℕ) (ns : List (List ℕ)) → (more : List ℕ) × IsBehind more × (join_with_byte 46 (n ∷ ns) ≡ n ++ more)
behind-first n [] = ([], inl refl, sym (append-nil n))
behind-first n (m ∷ ns) = (46 ∷ join_with_byte 46 (m ∷ ns), inr (join_with_byte 46 (m ∷ ns), refl), refl)

pub no_name : (ns : List (List ℕ)) → is_empty ns ≡ true → [] ≡ ns
no_name [] h = refl
no_name (n ∷ ns) h = absurd (cc (h))

pub ends_open : (kind : NameKind) (last : Bool) (p : List ℕ) → is_open kind last p ≡ true → eqb (get_or p (length p - 1) 0) 42 ≡ true
ends_open DataSet last p h = absurd (cc (h))
ends_open General last p h = both last (eqb (get_or p (length p - 1) 0) 42) h (λ _ star. star)

-- The pattern is the name, or comes behind it.
pub covers-first : (kind : NameKind) (ps ns : List (List ℕ)) → EachQualifier (λ b. b ≢ 46) ps → EachQualifier IsPlain ns → covers_all kind ps ns ≡ true → (ps ≡ ns) ⊎ (slice_cmp nat_cmp (ranks ns) (ranks ps) ≡ Less)
covers-first kind [] ns low h m = inl (no_name ns m)
covers-first kind (p ∷ ps) ns low h m = settled (λ rest. covers-first kind ps rest low.1) (is_double p) (is_open kind (is_empty ps) p) refl refl ns h m
  where
    by_ranks : (n : List ℕ) (rest : List (List ℕ)) → EachQualifier IsPlain (n ∷ rest) → is_double p ≡ false → slice_cmp nat_cmp (map rank n ++ 257 ∷ ranks rest) (map rank p ++ 257 ∷ ranks ps) ≡ Less → slice_cmp nat_cmp (ranks (n ∷ rest)) (ranks (p ∷ ps)) ≡ Less
    by_ranks n rest h double e =
        ap (λ (xs : List ℕ). slice_cmp nat_cmp xs (ranks (p ∷ ps))) (plain-ranks n rest h.0)
        ∙ ap (λ (ys : List ℕ). slice_cmp nat_cmp (map rank n ++ 257 ∷ ranks rest) ys) (single-ranks p ps double)
        ∙ e

    settled : ((rest : List (List ℕ)) → EachQualifier IsPlain rest → covers_all kind ps rest ≡ true → (ps ≡ rest) ⊎ (slice_cmp nat_cmp (ranks rest) (ranks ps) ≡ Less)) → (s t : Bool) → is_double p ≡ s → is_open kind (is_empty ps) p ≡ t → (names : List (List ℕ)) → EachQualifier IsPlain names → covers_all kind (p ∷ ps) names ≡ true → (p ∷ ps ≡ names) ⊎ (slice_cmp nat_cmp (ranks names) (ranks (p ∷ ps)) ≡ Less)
    settled again true t double opened names h m =
        inr (ap (λ (u : Bool). slice_cmp nat_cmp (ranks names) (cond u (260 ∷ ranks ps) (map rank p ++ 257 ∷ ranks ps))) double ∙ below-double names (ranks ps) h)
    settled again false t double opened [] h m = absurd (cc (m, covers_all-none kind p ps double))
    settled again false true double opened (n ∷ rest) h m =
        let behind = behind-first n rest in
        let text : begins (front p) (n ++ behind.0) ≡ true =
        sym (ap (λ (f : List ℕ). begins f (n ++ behind.0)) (front-take p)) ∙ sym (ap (λ (xs : List ℕ). begins (take (length p - 1) p) xs) behind.2) ∙ sym (covers_all-open kind p ps n rest double opened) ∙ m in
        let star : last p ≡ 42 = sym (last-get p) ∙ equal_byte (get_or p (length p - 1) 0) 42 (ends_open kind (is_empty ps) p opened) in
        inr (ap (λ (xs : List ℕ). slice_cmp nat_cmp xs (ranks (p ∷ ps))) (plain-ranks n rest h.0)
        ∙ ap (λ (ys : List ℕ). slice_cmp nat_cmp (map rank n ++ 257 ∷ ranks rest) ys) (single-ranks p ps double)
        ∙ open-front p n behind.0 (ranks rest) (ranks ps) h.0 low.0 behind.1 star text)
    settled again false false double shut (n ∷ rest) h m =
        both (matches p n) (covers_all kind ps rest) (sym (covers_all-one kind p ps n rest double shut) ∙ m)
        (λ like more. ⊎_elim
        (λ (e : p ≡ n). ⊎_elim
        (λ (f : ps ≡ rest). inl (cc (e, f)))
        (λ (f : slice_cmp nat_cmp (ranks rest) (ranks ps) ≡ Less).
        inr (by_ranks n rest h double (ap (λ (q : List ℕ). slice_cmp nat_cmp (map rank n ++ 257 ∷ ranks rest) (map rank q ++ 257 ∷ ranks ps)) e ∙ same_front (map rank n) (257 ∷ ranks rest) (257 ∷ ranks ps) ∙ same_head 257 (ranks rest) (ranks ps) ∙ f)))
        (again rest h.1 more))
        (λ (e : slice_cmp nat_cmp (map rank n ++ 257 ∷ ranks rest) (map rank p ++ 257 ∷ ranks ps) ≡ Less). inr (by_ranks n rest h double e))
        (matches-first p n (ranks rest) (ranks ps) h.0 like))

pub very_name_first : (pattern name : Spelled) → IsResource name → pattern.kind ≡ name.kind → covers pattern name ≡ true → (pattern ≡ name) ⊎ (before name pattern ≡ true)
very_name_first pattern name lawful kind m = ⊎_elim
    (λ (e : qualifiers pattern.text ≡ qualifiers name.text). inl (same_spelled pattern name kind (qualifiers-injective pattern.text name.text e)))
    (λ (e : slice_cmp nat_cmp (ranks (qualifiers name.text)) (ranks (qualifiers pattern.text)) ≡ Less). inr (ap is_lt e))
    (covers-first pattern.kind (qualifiers pattern.text) (qualifiers name.text) (no-periods pattern.text) (resource-plain name lawful) m)
