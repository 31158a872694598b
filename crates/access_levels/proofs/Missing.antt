-- The least missing number, found word by word.
use Rattle.std.proofs.Common.{◌≡◌, ℕ, zero, suc, ◌+◌, ◌-◌, ◌*◌, ◌/◌, ◌%◌, ◌<◌, ◌≤◌, min, Bool, true, false, not, ◌&&◌, eqb, cond, List, get_or, Some, None, refl, sym, ◌∙◌, ap, subst, ⊎_elim, arith, bit_and, w64}
use Rattle.std.specs.Int.{bit_at, bit_not, trailing_zeros}
use Rattle.std.specs.List.{find, range_with_len}
use Rattle.std.proofs.lemmas.Bool.{cases_eq, cases_lt}
use Rattle.std.proofs.lemmas.Nat.Bits.{bit_at-lt, bit_at-zero, bit_at_and, bit_at_not, bit_at-trailing_zeros}
use Rattle.std.proofs.lemmas.Nat.{and_le_l}
use Rattle.std.proofs.Math.Nat.{lt_of_le_of_lt}
use Rattle.access_levels.specs.Category.{is_missing, first_missing}
use Rattle.access_levels.specs.Words.{joined, AreWords, bit_at-joined}

-- A search of numbers in order.
pub find_none : (p : ℕ → Bool) (a n : ℕ) → ((m : ℕ) → a ≤ m → m < a + n → p m ≡ false) → find p (range_with_len a n) ≡ None
find_none p a zero none = refl
find_none p a (suc n) none =
    ap (λ b. cond b (Some a) (find p (range_with_len (a + 1) n))) (none a (omega arith) (omega arith)) ∙ find_none p (a + 1) n (λ m l u. none m (omega arith) (omega arith))

find_first : (p : ℕ → Bool) (a n k : ℕ) → a ≤ k → k < a + n → p k ≡ true → ((m : ℕ) → a ≤ m → m < k → p m ≡ false) → find p (range_with_len a n) ≡ Some k
find_first p a zero k low high here before = absurd (omega arith)
find_first p a (suc n) k low high here before = ⊎_elim
    (λ (same : a ≡ k). ap (λ b. cond b (Some a) (find p (range_with_len (a + 1) n))) (ap p same ∙ here) ∙ ap Some same)
    (λ (other : a ≡ k → ⊥). ap (λ b. cond b (Some a) (find p (range_with_len (a + 1) n))) (before a (omega arith) (omega arith)) ∙ find_first p (a + 1) n k (omega arith) (omega arith) here (λ m l u. before m (omega arith) u))
    (cases_eq a k)

-- What is first missing as a fact is so by the definition.
pub none_missing : (set wanted : ℕ) → ((m : ℕ) → m < 256 → is_missing set wanted m ≡ false) → None ≡ first_missing set wanted
unfolding first_missing
none_missing set wanted none = sym (find_none (is_missing set wanted) 0 256 (λ m l u. none m (omega arith)))

pub one_missing : (set wanted n : ℕ) → n < 256 → is_missing set wanted n ≡ true → ((m : ℕ) → m < n → is_missing set wanted m ≡ false) → Some n ≡ first_missing set wanted
unfolding first_missing
one_missing set wanted n small here before = sym (find_first (is_missing set wanted) 0 256 n (omega arith) (omega arith) here (λ m l u. before m u))

-- The bits of the word of missing numbers.
both : (a b : ℕ) → a < 2 → b < 2 → eqb (min a (1 - b)) 1 ≡ (eqb a 1 && not (eqb b 1))
both a b h k = ⊎_elim
    (λ (a0 : a ≡ 0). ⊎_elim (λ (b0 : b ≡ 0). rw (a0, b0) refl) (λ (b1 : b ≡ 0 → ⊥). let e : b ≡ 1 = omega arith in rw (a0, e) refl) (cases_eq b 0))
    (λ (a1 : a ≡ 0 → ⊥). let d : a ≡ 1 = omega arith in ⊎_elim (λ (b0 : b ≡ 0). rw (d, b0) refl) (λ (b1 : b ≡ 0 → ⊥). let e : b ≡ 1 = omega arith in rw (d, e) refl) (cases_eq b 0))
    (cases_eq a 0)

-- The word at q of what `wanted` has and the set hasn't.
abbrev pub missing_word : List ℕ → List ℕ → ℕ → ℕ
missing_word words wanted q = bit_and (get_or wanted q 0) (bit_not w64 (get_or words q 0))

pub is_missing-in_word : (words wanted : List ℕ) (q i m : ℕ) → AreWords words → AreWords wanted → i < 64 → m ≡ 64 * q + i → is_missing (joined words) (joined wanted) m ≡ eqb (bit_at (missing_word words wanted q) i) 1
is_missing-in_word words wanted q i m h k small at =
    let quotient : m / 64 ≡ q = omega arith in
    let rest : m % 64 ≡ i = omega arith in
    let wants : bit_at (joined wanted) m ≡ bit_at (get_or wanted q 0) i = bit_at-joined wanted m k.fit ∙ ap (λ j. bit_at (get_or wanted j 0) (m % 64)) quotient ∙ ap (λ j. bit_at (get_or wanted q 0) j) rest in
    let holds : bit_at (joined words) m ≡ bit_at (get_or words q 0) i = bit_at-joined words m h.fit ∙ ap (λ j. bit_at (get_or words j 0) (m % 64)) quotient ∙ ap (λ j. bit_at (get_or words q 0) j) rest in
    let bits : bit_at (missing_word words wanted q) i ≡ min (bit_at (get_or wanted q 0) i) (1 - bit_at (get_or words q 0) i) =
    bit_at_and (get_or wanted q 0) (bit_not w64 (get_or words q 0)) i ∙ ap (λ x. min (bit_at (get_or wanted q 0) i) x) (bit_at_not w64 (get_or words q 0) i (h.fit q) small) in
    ap (λ x. eqb x 1 && not (eqb (bit_at (joined words) m) 1)) wants ∙ ap (λ x. eqb (bit_at (get_or wanted q 0) i) 1 && not (eqb x 1)) holds
    ∙ sym (both _ _ (bit_at-lt (get_or wanted q 0) i) (bit_at-lt (get_or words q 0) i)) ∙ sym (ap (λ x. eqb x 1) bits)

-- What is known of the words below q: none of their numbers is missing.
abbrev pub NoneBelow : ℕ → ℕ → ℕ → Type 0
NoneBelow set wanted q = (m : ℕ) → m < 64 * q → is_missing set wanted m ≡ false

in_word : (m q : ℕ) → 64 * q ≤ m → m ≡ 64 * q + (m - 64 * q)
in_word m q h = omega arith

-- A word without missing numbers.
none_below-more : (words wanted : List ℕ) (q : ℕ) → AreWords words → AreWords wanted → NoneBelow (joined words) (joined wanted) q
    → missing_word words wanted q ≡ 0 → NoneBelow (joined words) (joined wanted) (q + 1)
none_below-more words wanted q h k below empty m small = ⊎_elim
    (λ (under : m < 64 * q). below m under)
    (λ (over : 64 * q ≤ m). is_missing-in_word words wanted q (m - 64 * q) m h k (omega arith) (in_word m q over)
    ∙ ap (λ x. eqb (bit_at x (m - 64 * q)) 1) empty ∙ ap (λ x. eqb x 1) (bit_at-zero (m - 64 * q)))
    (cases_lt m (64 * q))

-- The number n is the least that is missing.
abbrev pub IsLeast : ℕ → ℕ → ℕ → Type 0
IsLeast set wanted n = (n < 256) × (is_missing set wanted n ≡ true) × ((m : ℕ) → m < n → is_missing set wanted m ≡ false)

-- The first word with a missing number has it at its trailing zeros.
first_in_word : (words wanted : List ℕ) (q : ℕ) → AreWords words → AreWords wanted → q < 4 → NoneBelow (joined words) (joined wanted) q
    → (missing_word words wanted q ≡ 0 → ⊥)
    → IsLeast (joined words) (joined wanted) (64 * q + trailing_zeros w64 (missing_word words wanted q))
first_in_word words wanted q h k small below some =
    let found : (trailing_zeros w64 (missing_word words wanted q) < 64) × (bit_at (missing_word words wanted q) (trailing_zeros w64 (missing_word words wanted q)) ≡ 1)
    × ((i : ℕ) → i < trailing_zeros w64 (missing_word words wanted q) → bit_at (missing_word words wanted q) i ≡ 0) =
    bit_at-trailing_zeros w64 (missing_word words wanted q) (omega arith) (lt_of_le_of_lt (and_le_l _ _) (k.fit q)) in (
      omega (arith, found.0),
      is_missing-in_word words wanted q (trailing_zeros w64 (missing_word words wanted q)) _ h k found.0 refl ∙ ap (λ x. eqb x 1) found.1,
      λ m under. ⊎_elim
          (λ (lower : m < 64 * q). below m lower)
          (λ (over : 64 * q ≤ m). is_missing-in_word words wanted q (m - 64 * q) m h k (omega (arith, found.0)) (in_word m q over)
          ∙ ap (λ x. eqb x 1) (found.2 (m - 64 * q) (omega arith)))
          (cases_lt m (64 * q)),
    )

-- The same of the sets that the words are.
pub found_in_word : (words wanted : List ℕ) (q set wants : ℕ) → AreWords words → AreWords wanted → joined words ≡ set → joined wanted ≡ wants
    → q < 4 → NoneBelow set wants q → (missing_word words wanted q ≡ 0 → ⊥) → IsLeast set wants (64 * q + trailing_zeros w64 (missing_word words wanted q))
found_in_word words wanted q set wants h k is_set is_wanted small =
    let P : ℕ → ℕ → Type 0 = λ s w. NoneBelow s w q → (missing_word words wanted q ≡ 0 → ⊥) → IsLeast s w (64 * q + trailing_zeros w64 (missing_word words wanted q)) in
    subst (λ s. P s wants) is_set (subst (P (joined words)) is_wanted (first_in_word words wanted q h k small))

pub none_in_word : (words wanted : List ℕ) (q set wants : ℕ) → AreWords words → AreWords wanted → joined words ≡ set → joined wanted ≡ wants
    → NoneBelow set wants q → missing_word words wanted q ≡ 0 → NoneBelow set wants (q + 1)
none_in_word words wanted q set wants h k is_set is_wanted =
    let P : ℕ → ℕ → Type 0 = λ s w. NoneBelow s w q → missing_word words wanted q ≡ 0 → NoneBelow s w (q + 1) in
    subst (λ s. P s wants) is_set (subst (P (joined words)) is_wanted (none_below-more words wanted q h k))
