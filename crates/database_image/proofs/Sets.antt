-- The bits of a set, in its bytes.
use Rattle.std.proofs.Common.{◌≡◌, ℕ, zero, suc, ◌+◌, ◌-◌, ◌*◌, ◌/◌, ◌%◌, ◌^◌, ◌<◌, ◌≤◌, Bool, true, false, List, [], ◌∷◌, ◌++◌, append_assoc, refl, sym, ap, subst, ◌∙◌, arith, ⊎_elim, eq-eqb, le-ltb, lt-ltb, pow-suc}
use Rattle.std.specs.Prelude.{slice_index, nat_lt, ◌==◌, ◌&&◌, ◌||◌}
use Rattle.std.specs.Int.{bit_at, byte_at, bytes_low_first}
use Rattle.std.proofs.Math.Nat.{div-div-eq-div-mul, div-one}
use Rattle.std.proofs.lemmas.Nat.{mod-pow-add, pow-add}
use Rattle.std.proofs.lemmas.Bool.{cases_lt, cases_eq, ne_eqb}
use Rattle.std.proofs.lemmas.Bool.Decides.{nat_tests}
use Rattle.std.proofs.lemmas.Nat.Bits.{bit_at-lt, bit_at_cat_low, bit_at_cat_high, bit_at_above, same_from_bits}
use Rattle.access_levels.specs.Category.{is_member}
use Rattle.byteorder.specs.Endian.{little_from, little_number}
use Rattle.byteorder.specs.Numbers.{little_from-lt}

abbrev pub AreBytes : List ℕ → Type 0
AreBytes bytes = (k : ℕ) → slice_index bytes k < 256

swapped : (a b : ℕ) → a + 256 * b ≡ b * 2 ^ 8 + a
swapped a b = omega arith

near : (n i : ℕ) → n < 8 → i + n / 8 ≡ i
near n i h = omega arith

within : (n : ℕ) → n < 8 → n % 8 ≡ n
within n h = omega arith

far : (n i : ℕ) → 8 ≤ n → suc i + (n - 8) / 8 ≡ i + n / 8
far n i h = omega arith

rest : (n : ℕ) → 8 ≤ n → (n - 8) % 8 ≡ n % 8
rest n h = omega arith

bit-of : (i k : ℕ) (bytes : List ℕ) (n : ℕ) → AreBytes bytes → n < 8 * k → bit_at (little_from i k bytes) n ≡ bit_at (slice_index bytes (i + n / 8)) (n % 8)
bit-of i zero bytes n fits h = absurd (omega arith)
bit-of i (suc k) bytes n fits h =
    ap (λ x. bit_at x n) (swapped (slice_index bytes i) (little_from (suc i) k bytes))
    ∙ ⊎_elim
    (λ (low : n < 8). bit_at_cat_low (little_from (suc i) k bytes) 8 (slice_index bytes i) n low ∙ sym (ap (λ j. bit_at (slice_index bytes j) (n % 8)) (near n i low) ∙ ap (bit_at (slice_index bytes i)) (within n low)))
    (λ (high : 8 ≤ n). bit_at_cat_high (little_from (suc i) k bytes) 8 (slice_index bytes i) n (fits i) high ∙ bit-of (suc i) k bytes (n - 8) fits (omega (arith, h, high)) ∙ ap (λ j. bit_at (slice_index bytes j) ((n - 8) % 8)) (far n i high) ∙ ap (bit_at (slice_index bytes (i + n / 8))) (rest n high))
    (cases_lt n 8)

-- A number of a set is a bit of a byte.
pub member-of : (bytes : List ℕ) (n : ℕ) → AreBytes bytes → n < 256 → is_member (little_number 32 bytes) n ≡ (bit_at (slice_index bytes (n / 8)) (n % 8) == 1)
member-of bytes n fits h = ap (λ x. x == 1) (bit-of 0 32 bytes n fits (omega (arith, h)) ∙ ap (λ j. bit_at (slice_index bytes j) (n % 8)) (omega arith))

pub bounded : (bytes : List ℕ) → AreBytes bytes → little_number 32 bytes < 2 ^ 256
bounded bytes fits = little_from-lt 0 32 bytes fits

-- ---- a set built number by number

above : (m n : ℕ) → n ≤ m → (m ≡ n → ⊥) → n + 1 ≤ m
above m n h other = ⊎_elim (λ (low : m < n + 1). absurd (other (omega (arith, low, h)))) (λ (high : n + 1 ≤ m). high) (cases_lt m (n + 1))

bit_equal : (x y : ℕ) → x < 2 → y < 2 → (x == 1) ≡ (y == 1) → x ≡ y
bit_equal zero zero h k e = refl
bit_equal (suc zero) (suc zero) h k e = refl
bit_equal zero (suc zero) h k e = absurd cc
bit_equal (suc zero) zero h k e = absurd cc
bit_equal (suc (suc x)) y h k e = absurd (omega arith)
bit_equal zero (suc (suc y)) h k e = absurd (omega arith)
bit_equal (suc zero) (suc (suc y)) h k e = absurd (omega arith)

decided : (m n : ℕ) (is : Bool) → m < n + 1 → m ≡ n → ((m == n && is) || (nat_lt m n && is)) ≡ (nat_lt m (n + 1) && is)
decided m n is h same = rw (lt-ltb m (n + 1) h, eq-eqb m n same) grind (arith, nat_tests)

undecided : (m n : ℕ) (is other : Bool) → (m ≡ n → ⊥) → ((m == n && other) || (nat_lt m n && is)) ≡ (nat_lt m (n + 1) && is)
undecided m n is other h = rw (ne_eqb m n h) (ap (λ b. b && is) (⊎_elim
    (λ (low : m < n). lt-ltb m n low ∙ sym (lt-ltb m (n + 1) (omega (arith, low))))
    (λ (high : n ≤ m). le-ltb m n high ∙ sym (le-ltb m (n + 1) (above m n high h)))
    (cases_lt m n)))

past : (big m : ℕ) → big < 2 ^ 256 → (nat_lt m 256 && is_member big m) ≡ is_member big m
past big m h = ⊎_elim
    (λ (low : m < 256). rw (lt-ltb m 256 low) refl)
    (λ (high : 256 ≤ m). rw (le-ltb m 256 high) (sym (ap (λ x. x == 1) (bit_at_above big 256 m h high))))
    (cases_lt m 256)

same_bit : (a b m : ℕ) → is_member a m ≡ is_member b m → bit_at a m ≡ bit_at b m
same_bit a b m h = bit_equal (bit_at a m) (bit_at b m) (bit_at-lt a m) (bit_at-lt b m) h

pub grown : (m n : ℕ) (big : ℕ) (before : Bool) → before ≡ (nat_lt m n && is_member big m) → ((m == n && is_member big n) || before) ≡ (nat_lt m (n + 1) && is_member big m)
grown m n big before h = ⊎_elim
    (λ (same : m ≡ n). let e : is_member big n ≡ is_member big m = ap (is_member big) (sym same) in rw (h, e) (decided m n (is_member big m) (omega (arith, same)) same))
    (λ (other : m ≡ n → ⊥). rw h (undecided m n (is_member big m) (is_member big n) other))
    (cases_eq m n)

pub built : (set big : ℕ) → big < 2 ^ 256 → ((m : ℕ) → is_member set m ≡ (nat_lt m 256 && is_member big m)) → set ≡ big
built set big h members = same_from_bits set big (λ m. same_bit set big m (members m ∙ past big m h))

-- ---- sets of low numbers alone

pub not-below : (set count n : ℕ) → count ≤ n → is_member set n ≡ true → nat_lt set (2 ^ count) ≡ false
not-below set count n h is = ⊎_elim
    (λ (low : set < 2 ^ count). let none : is_member set n ≡ false = ap (λ x. x == 1) (bit_at_above set count n low h) in absurd cc)
    (λ (high : 2 ^ count ≤ set). le-ltb set (2 ^ count) high)
    (cases_lt set (2 ^ count))

itself : (j : ℕ) → j - j ≡ 0
itself j = omega arith

top : (j r : ℕ) → r < 2 ^ j → bit_at (1 * 2 ^ j + r) j ≡ 1
top j r h = bit_at_cat_high 1 j r j h (omega arith) ∙ ap (bit_at 1) (itself j)

apart : (set p : ℕ) → p ≤ set → set ≡ 1 * p + (set - p)
apart set p h = omega (arith, h)

halved : (set j : ℕ) → set < 2 ^ suc j → is_member set j ≡ false → set < 2 ^ j
halved set j h clear = ⊎_elim
    (λ (low : set < 2 ^ j). low)
    (λ (high : 2 ^ j ≤ set).
    let small : set - 2 ^ j < 2 ^ j = omega (arith, h, high, pow-suc 2 j) in
    let one : is_member set j ≡ true = ap (λ x. bit_at x j == 1) (apart set (2 ^ j) high) ∙ ap (λ x. x == 1) (top j (set - 2 ^ j) small) in absurd cc)
    (cases_lt set (2 ^ j))

pub all-below : (k set count : ℕ) → set < 2 ^ (count + k) → ((m : ℕ) → count ≤ m → m < count + k → is_member set m ≡ false) → set < 2 ^ count
all-below zero set count h none = let e : count + 0 ≡ count = omega arith in subst (λ j. set < 2 ^ j) e h
all-below (suc k) set count h none =
    let e : count + suc k ≡ suc (count + k) = omega arith in
    let once : set < 2 ^ (count + k) = halved set (count + k) (subst (λ j. set < 2 ^ j) e h) (none (count + k) (omega arith) (omega arith)) in
    all-below k set count once (λ m a b. none m a (omega (arith, b)))

pub is-below : (set count : ℕ) → count ≤ 256 → set < 2 ^ 256 → ((m : ℕ) → count ≤ m → m < 256 → is_member set m ≡ false) → nat_lt set (2 ^ count) ≡ true
is-below set count few h none =
    let e : count + (256 - count) ≡ 256 = omega (arith, few) in
    lt-ltb set (2 ^ count) (all-below (256 - count) set count (subst (λ j. set < 2 ^ j) (sym e) h) (λ m a b. none m a (omega (arith, b, e))))

-- ---- the bytes of a set, one behind another

byte_at-pow : (k x : ℕ) → byte_at k x ≡ x / 256 ^ k % 256
byte_at-pow zero x = ap (λ (y : ℕ). y % 256) (sym (div-one x))
byte_at-pow (suc k) x = refl

pub one_more : (out : List ℕ) (set place : ℕ) → place < 32 → (out ++ set / 256 ^ place % 256 ∷ []) ++ bytes_low_first (place + 1) (32 - (place + 1)) set ≡ out ++ bytes_low_first place (32 - place) set
one_more out set place h =
    let left : 32 - place ≡ suc (32 - (place + 1)) = omega (arith, h) in
    let next : suc place ≡ place + 1 = omega arith in
    append_assoc out (set / 256 ^ place % 256 ∷ []) (bytes_low_first (place + 1) (32 - (place + 1)) set)
    ∙ ap (λ (b : ℕ). out ++ b ∷ bytes_low_first (place + 1) (32 - (place + 1)) set) (sym (byte_at-pow place set))
    ∙ ap (λ (i : ℕ). out ++ byte_at place set ∷ bytes_low_first i (32 - (place + 1)) set) (sym next)
    ∙ ap (λ (n : ℕ). out ++ bytes_low_first place n set) (sym left)

-- One bit more of a byte.
bit_more : (x n : ℕ) → x % 2 ^ (n + 1) ≡ bit_at x n * 2 ^ n + x % 2 ^ n
bit_more x n = let e : n + 1 ≡ 1 + n = omega arith in ap (λ (j : ℕ). x % 2 ^ j) e ∙ mod-pow-add x 1 n

powers : (place : ℕ) → 256 ^ place ≡ 2 ^ (8 * place)
powers zero = refl
powers (suc place) =
    let e : 8 * suc place ≡ 8 * place + 8 = omega arith in
    pow-suc 256 place ∙ ap (λ (p : ℕ). p * 256) (powers place) ∙ sym (pow-add 2 (8 * place) 8) ∙ ap (λ (j : ℕ). 2 ^ j) (sym e)

bit-of-byte : (set place n : ℕ) → bit_at (set / 256 ^ place) n ≡ bit_at set (8 * place + n)
bit-of-byte set place n = ap (λ (x : ℕ). x % 2) (div-div-eq-div-mul set (256 ^ place) (2 ^ n) ∙ ap (λ (p : ℕ). set / (p * 2 ^ n)) (powers place) ∙ ap (λ (p : ℕ). set / p) (sym (pow-add 2 (8 * place) n)))

pub byte-grown : (byte more set place n : ℕ) → byte ≡ set / 256 ^ place % 2 ^ n → more ≡ bit_at set (8 * place + n) * 2 ^ n → byte + more ≡ set / 256 ^ place % 2 ^ (n + 1)
byte-grown byte more set place n h k =
    let sum : byte + more ≡ bit_at set (8 * place + n) * 2 ^ n + set / 256 ^ place % 2 ^ n = rw (h, k) (omega arith) in
    sum ∙ ap (λ (b : ℕ). b * 2 ^ n + set / 256 ^ place % 2 ^ n) (sym (bit-of-byte set place n)) ∙ sym (bit_more (set / 256 ^ place) n)

-- ---- the numbers of a set below 256

set-split : (set : ℕ) → set ≡ set / 2 ^ 256 * 2 ^ 256 + set % 2 ^ 256
set-split set = omega arith

pub low-member : (set n : ℕ) → n < 256 → is_member set n ≡ is_member (set % 2 ^ 256) n
low-member set n h = ap (λ x. x == 1) (ap (λ (s : ℕ). bit_at s n) (set-split set) ∙ bit_at_cat_low (set / 2 ^ 256) 256 (set % 2 ^ 256) n h)

not-same : (set : ℕ) → 2 ^ 256 ≤ set → set % 2 ^ 256 ≡ set → ⊥
not-same set h e = absurd (omega (arith, h, e))

pub made-same : (set : ℕ) → (set % 2 ^ 256 == set) ≡ nat_lt set (2 ^ 256)
made-same set = ⊎_elim
    (λ (low : set < 2 ^ 256). eq-eqb (set % 2 ^ 256) set (omega (arith, low)) ∙ sym (lt-ltb set (2 ^ 256) low))
    (λ (high : 2 ^ 256 ≤ set). ne_eqb (set % 2 ^ 256) set (not-same set high) ∙ sym (le-ltb set (2 ^ 256) high))
    (cases_lt set (2 ^ 256))
