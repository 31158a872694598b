-- The begins of keys compare as the keys do, where they differ.
use Rattle.std.proofs.Common.{true, false, ltb, ◌≢◌, ◌≡◌, ℕ, zero, suc, ◌+◌, ◌*◌, ◌^◌, ◌<◌, ◌≤◌, List, [], ◌∷◌, get_or, Ordering, refl, ap, ◌∙◌, arith, ⊎_elim, subst, sym}
use Rattle.std.specs.declared.cmp.Ordering.TheVariants.{Less, Equal, Greater}
use Rattle.std.specs.Ordering.{nat_cmp, is_lt, ordering_then}
use Rattle.std.specs.Cmp.Lexicographic.{slice_cmp}
use Rattle.std.proofs.Math.Nat.{pow-suc, pow-le-pow_right, one-le-pow, mul-le-mul_right}
use Rattle.std.proofs.lemmas.Bool.{cases_eq, cases_lt}
use Rattle.std.proofs.lemmas.Bool.Decides.{nat_tests}
use Rattle.pages.specs.KeyBegin.{first_bytes, begin_of, AreBytes}

-- which way two numbers compare
cmp-less : (x y : ℕ) → x < y → nat_cmp x y ≡ Less
cmp-less x y h = grind (arith, nat_tests)

cmp-same : (x y : ℕ) → x ≡ y → nat_cmp x y ≡ Equal
cmp-same x y h = grind (arith, nat_tests)

cmp-more : (x y : ℕ) → y < x → nat_cmp x y ≡ Greater
cmp-more x y h = grind (arith, nat_tests)

-- a number and the bytes behind it, where all that stands behind is below a power
head-below : (power byte rest : ℕ) → byte < 256 → rest < power → byte * power + rest < power * 256
head-below power byte rest low less =
    let most : suc byte * power ≤ 256 * power = mul-le-mul_right power (omega (arith, low)) in
    omega (arith, most, less)

heads-differ : (power x y rest other : ℕ) → x < y → rest < power → x * power + rest < y * power + other
heads-differ power x y rest other low less =
    let most : suc x * power ≤ y * power = mul-le-mul_right power (omega (arith, low)) in
    omega (arith, most, less)

pub first_bytes-below : (count : ℕ) (key : List ℕ) → AreBytes key → first_bytes count key < 256 ^ count
first_bytes-below zero key bytes = omega arith
first_bytes-below (suc count) [] bytes =
    let power : 256 ^ suc count ≡ 256 ^ count * 256 = pow-suc 256 count in
    let some : 1 ≤ 256 ^ count = one-le-pow count 256 (omega arith) in
    omega (arith, power, some)
first_bytes-below (suc count) (byte ∷ key) bytes =
    let power : 256 ^ suc count ≡ 256 ^ count * 256 = pow-suc 256 count in
    omega (arith, power, head-below (256 ^ count) byte (first_bytes count key) bytes.0 (first_bytes-below count key bytes.1))

-- so many bytes that another fits into 64 bits
pub first_bytes-room : (count : ℕ) (key : List ℕ) → AreBytes key → count < 8 → first_bytes count key < 72057594037927936
first_bytes-room count key bytes few =
    let most : 256 ^ count ≤ 256 ^ 7 = pow-le-pow_right (omega arith) {i = count} {j = 7} (omega (arith, few)) in
    let less = first_bytes-below count key bytes in
    omega (arith, most, less)

-- one byte more
pub first_bytes-more : (count : ℕ) (key : List ℕ) → first_bytes (suc count) key ≡ first_bytes count key * 256 + get_or key count 0
first_bytes-more zero [] = omega arith
first_bytes-more zero (byte ∷ key) = omega arith
first_bytes-more (suc count) [] = omega arith
first_bytes-more (suc count) (byte ∷ key) =
    let power : 256 ^ suc count ≡ 256 ^ count * 256 = pow-suc 256 count in
    let again = first_bytes-more count key in
    ap (λ (n : ℕ). byte * n + first_bytes (suc count) key) power
    ∙ ap (λ (n : ℕ). byte * (256 ^ count * 256) + n) again
    ∙ regrouped byte (256 ^ count) (first_bytes count key) (get_or key count 0)
  where
    regrouped : (byte power rest last : ℕ) → byte * (power * 256) + (rest * 256 + last) ≡ (byte * power + rest) * 256 + last
    regrouped byte power rest last = omega arith

pub are-bytes : (key : List ℕ) → ((i : ℕ) → get_or key i 0 < 256) → AreBytes key
are-bytes [] low = tt
are-bytes (byte ∷ key) low = (low 0, are-bytes key (λ i. low (suc i)))

-- those of the lower begin
pub lower-begin : (count : ℕ) (a b : List ℕ) → AreBytes a → AreBytes b → first_bytes count a < first_bytes count b → slice_cmp nat_cmp a b ≡ Less
lower-begin zero a b low_a low_b h = absurd (omega arith)
lower-begin (suc count) [] [] low_a low_b h = absurd (omega arith)
lower-begin (suc count) [] (y ∷ b) low_a low_b h = refl
lower-begin (suc count) (x ∷ a) [] low_a low_b h = absurd (omega arith)
lower-begin (suc count) (x ∷ a) (y ∷ b) low_a low_b h = ⊎_elim
    (λ (less : x < y). ap (λ (r : Ordering). ordering_then r (slice_cmp nat_cmp a b)) (cmp-less x y less))
    (λ (more : y ≤ x). ⊎_elim
    (λ (same : x ≡ y).
    let rest : first_bytes count a < first_bytes count b = behind same in
    ap (λ (r : Ordering). ordering_then r (slice_cmp nat_cmp a b)) (cmp-same x y same)
    ∙ lower-begin count a b low_a.1 low_b.1 rest)
    (λ (other : x ≡ y → ⊥).
    let greater : y < x = omega (arith, more, other) in
    let wrong = heads-differ (256 ^ count) y x (first_bytes count b) (first_bytes count a) greater (first_bytes-below count b low_b.1) in
    absurd (omega (arith, wrong, h)))
    (cases_eq x y))
    (cases_lt x y)
  where
    behind : x ≡ y → first_bytes count a < first_bytes count b
    behind same =
        let head : x * 256 ^ count ≡ y * 256 ^ count = ap (λ (n : ℕ). n * 256 ^ count) same in
        omega (arith, head, h)

-- the other way round
pub higher-begin : (count : ℕ) (a b : List ℕ) → AreBytes a → AreBytes b → first_bytes count b < first_bytes count a → slice_cmp nat_cmp a b ≡ Greater
higher-begin zero a b low_a low_b h = absurd (omega arith)
higher-begin (suc count) [] [] low_a low_b h = absurd (omega arith)
higher-begin (suc count) [] (y ∷ b) low_a low_b h = absurd (omega arith)
higher-begin (suc count) (x ∷ a) [] low_a low_b h = refl
higher-begin (suc count) (x ∷ a) (y ∷ b) low_a low_b h = ⊎_elim
    (λ (more : y < x). ap (λ (r : Ordering). ordering_then r (slice_cmp nat_cmp a b)) (cmp-more x y more))
    (λ (least : x ≤ y). ⊎_elim
    (λ (same : x ≡ y).
    let rest : first_bytes count b < first_bytes count a = behind same in
    ap (λ (r : Ordering). ordering_then r (slice_cmp nat_cmp a b)) (cmp-same x y same)
    ∙ higher-begin count a b low_a.1 low_b.1 rest)
    (λ (other : x ≡ y → ⊥).
    let less : x < y = omega (arith, least, other) in
    let wrong = heads-differ (256 ^ count) x y (first_bytes count a) (first_bytes count b) less (first_bytes-below count a low_a.1) in
    absurd (omega (arith, wrong, h)))
    (cases_eq x y))
    (cases_lt y x)
  where
    behind : x ≡ y → first_bytes count b < first_bytes count a
    behind same =
        let head : x * 256 ^ count ≡ y * 256 ^ count = ap (λ (n : ℕ). n * 256 ^ count) same in
        omega (arith, head, h)

-- where the begins differ, they decide
pub begin-decides : (a key : List ℕ) (x y : ℕ) → AreBytes a → AreBytes key → x ≡ begin_of a → y ≡ begin_of key → x ≢ y → ltb x y ≡ is_lt (slice_cmp nat_cmp a key)
begin-decides a key x y low_a bytes own other differ = ⊎_elim
    (λ (less : x < y).
    let test : ltb x y ≡ true = grind (arith, nat_tests) in
    let begins = subst (λ (n : ℕ). n < begin_of key) own (subst (λ (n : ℕ). x < n) other less) in
    test ∙ sym (ap is_lt (lower-begin 8 a key low_a bytes begins)))
    (λ (least : y ≤ x).
    let more : y < x = omega (arith, least, differ) in
    let test : ltb x y ≡ false = grind (arith, nat_tests) in
    let begins = subst (λ (n : ℕ). n < begin_of a) other (subst (λ (n : ℕ). y < n) own more) in
    test ∙ sym (ap is_lt (higher-begin 8 a key low_a bytes begins)))
    (cases_lt x y)
