-- The bits of a set when a word of it is written.
use Rattle.std.proofs.Common.{eq-eqb, ◌≡◌, ◌≢◌, ℕ, ◌+◌, ◌*◌, ◌/◌, ◌%◌, ◌^◌, ◌<◌, ◌≤◌, max, not, ◌&&◌, ◌||◌, eqb, List, length, get_or, set, sym, ◌∙◌, ap, subst, ⊎_elim, arith, bit_or, bit_and, w64}
use Rattle.std.specs.Int.{bit_at, bit_not}
use Rattle.std.proofs.lemmas.Bool.{cases_eq, cases_lt, ne_eqb}
use Rattle.std.proofs.lemmas.List.{get_or-set_same, get_or-set_other, length-set, set_past}
use Rattle.std.proofs.lemmas.Nat.{or_lt, and_le_l}
use Rattle.std.proofs.Math.Nat.{lt_of_le_of_lt}
use Rattle.std.proofs.lemmas.Nat.Bits.{bit_at-lt, bit_at_or, bit_at_xor, bit_at-pow_same, bit_at-pow_other, bit_at_set_same, bit_at_set_other, bit_at_clear_same, bit_at_clear_other, same_from_bits, shr_and_one}
use Rattle.access_levels.specs.Category.{is_member, including, excluding}
use Rattle.access_levels.specs.Words.{joined, AreWords, bit_at-joined}

-- Four words stay four words when one is written that fits.
pub AreWords-set : (words : List ℕ) (i word : ℕ) → AreWords words → word < 2 ^ 64 → AreWords (set words i word)
AreWords-set words i word h fits = record {
  four = length-set words i word ∙ h.four;
  fit = λ k. ⊎_elim
      (λ (same : k ≡ i). ⊎_elim
      (λ (inside : i < length words). let P : ℕ → Type 0 = λ x. x < 2 ^ 64 in subst P (sym (ap (λ j. get_or (set words i word) j 0) same ∙ get_or-set_same words i word 0 inside)) fits)
      (λ (past : length words ≤ i). let P : ℕ → Type 0 = λ x. x < 2 ^ 64 in subst P (sym (ap (λ ws. get_or ws k 0) (set_past words i word past))) (h.fit k))
      (cases_lt i (length words)))
      (λ (other : k ≡ i → ⊥). let P : ℕ → Type 0 = λ x. x < 2 ^ 64 in subst P (sym (get_or-set_other words i k word 0 other)) (h.fit k))
      (cases_eq k i);
}

-- A number is known by its quotient and its rest.
same_place : (m n : ℕ) → m / 64 ≡ n / 64 → m % 64 ≡ n % 64 → m ≡ n
same_place m n q r = omega arith

rest_below : (m : ℕ) → m % 64 < 64
rest_below m = omega arith

-- What one word's write does to the set: `wanted` and the word agree at n, and each keeps its other bits.
bit_written : (words : List ℕ) (n word wanted : ℕ) → AreWords words → n < 256
    → bit_at word (n % 64) ≡ bit_at wanted n
    → ((i : ℕ) → i < 64 → i ≢ n % 64 → bit_at word i ≡ bit_at (get_or words (n / 64) 0) i)
    → ((m : ℕ) → m ≢ n → bit_at wanted m ≡ bit_at (joined words) m)
    → (m : ℕ) → bit_at (get_or (set words (n / 64) word) (m / 64) 0) (m % 64) ≡ bit_at wanted m
bit_written words n word wanted h small here beside others m =
    let inside : n / 64 < length words = omega (arith, h.four) in
    let read : get_or (set words (n / 64) word) (n / 64) 0 ≡ word = get_or-set_same words (n / 64) word 0 inside in
    ⊎_elim
    (λ (same : m ≡ n). ap (λ k. bit_at (get_or (set words (n / 64) word) (k / 64) 0) (k % 64)) same ∙ ap (λ x. bit_at x (n % 64)) read ∙ here ∙ ap (λ k. bit_at wanted k) (sym same))
    (λ (other : m ≡ n → ⊥). ⊎_elim
    (λ (near : m / 64 ≡ n / 64). ap (λ k. bit_at (get_or (set words (n / 64) word) k 0) (m % 64)) near ∙ ap (λ x. bit_at x (m % 64)) read
    ∙ beside (m % 64) (rest_below m) (λ r. other (same_place m n near r)) ∙ ap (λ k. bit_at (get_or words k 0) (m % 64)) (sym near) ∙ sym (bit_at-joined words m h.fit) ∙ sym (others m other))
    (λ (far : m / 64 ≡ n / 64 → ⊥). ap (λ x. bit_at x (m % 64)) (get_or-set_other words (n / 64) (m / 64) word 0 far) ∙ sym (bit_at-joined words m h.fit) ∙ sym (others m other))
    (cases_eq (m / 64) (n / 64)))
    (cases_eq m n)

joined_written : (words : List ℕ) (n word wanted : ℕ) → AreWords words → n < 256 → word < 2 ^ 64
    → bit_at word (n % 64) ≡ bit_at wanted n
    → ((i : ℕ) → i < 64 → i ≢ n % 64 → bit_at word i ≡ bit_at (get_or words (n / 64) 0) i)
    → ((m : ℕ) → m ≢ n → bit_at wanted m ≡ bit_at (joined words) m)
    → joined (set words (n / 64) word) ≡ wanted
joined_written words n word wanted h small fits here beside others = same_from_bits _ _ (λ m.
    bit_at-joined (set words (n / 64) word) m (AreWords-set words (n / 64) word h fits).fit ∙ bit_written words n word wanted h small here beside others m)

greater_one : (x : ℕ) → x < 2 → max x 1 ≡ 1
greater_one x h = omega arith

greater_zero : (x : ℕ) → max x 0 ≡ x
greater_zero x = omega arith

-- The bits of a set with n, and without.
bit_at-including_same : (set n : ℕ) → bit_at (including set n) n ≡ 1
bit_at-including_same set n = bit_at_or set (2 ^ n) n ∙ ap (max (bit_at set n)) (bit_at-pow_same n) ∙ greater_one _ (bit_at-lt set n)

bit_at-including_other : (set n m : ℕ) → m ≢ n → bit_at (including set n) m ≡ bit_at set m
bit_at-including_other set n m other = bit_at_or set (2 ^ n) m ∙ ap (max (bit_at set m)) (bit_at-pow_other n m other) ∙ greater_zero _

bit_at-excluding_same : (set n : ℕ) → bit_at (excluding set n) n ≡ 0
bit_at-excluding_same set n = bit_at_xor (including set n) (2 ^ n) n ∙ ap (λ x. (x + bit_at (2 ^ n) n) % 2) (bit_at-including_same set n) ∙ ap (λ x. (1 + x) % 2) (bit_at-pow_same n)

bit_mod : (x : ℕ) → x < 2 → (x + 0) % 2 ≡ x
bit_mod x h = omega arith

bit_at-excluding_other : (set n m : ℕ) → m ≢ n → bit_at (excluding set n) m ≡ bit_at set m
bit_at-excluding_other set n m other = bit_at_xor (including set n) (2 ^ n) m ∙ ap (λ x. (x + bit_at (2 ^ n) m) % 2) (bit_at-including_other set n m other)
    ∙ ap (λ x. (bit_at set m + x) % 2) (bit_at-pow_other n m other) ∙ bit_mod _ (bit_at-lt set m)

-- Membership in a set with n, and without.
pub is_member-including : (set n m : ℕ) → is_member (including set n) m ≡ (eqb m n || is_member set m)
is_member-including set n m = ⊎_elim
    (λ (same : m ≡ n). ap (λ k. is_member (including set n) k) same ∙ ap (λ x. eqb x 1) (bit_at-including_same set n) ∙ sym (ap (λ b. b || is_member set m) (eq-eqb m n same)))
    (λ (other : m ≡ n → ⊥). ap (λ x. eqb x 1) (bit_at-including_other set n m other) ∙ sym (ap (λ b. b || is_member set m) (ne_eqb m n other)))
    (cases_eq m n)

pub is_member-excluding : (set n m : ℕ) → is_member (excluding set n) m ≡ (not (eqb m n) && is_member set m)
is_member-excluding set n m = ⊎_elim
    (λ (same : m ≡ n). ap (λ k. is_member (excluding set n) k) same ∙ ap (λ x. eqb x 1) (bit_at-excluding_same set n) ∙ sym (ap (λ b. not b && is_member set m) (eq-eqb m n same)))
    (λ (other : m ≡ n → ⊥). ap (λ x. eqb x 1) (bit_at-excluding_other set n m other) ∙ sym (ap (λ b. not b && is_member set m) (ne_eqb m n other)))
    (cases_eq m n)

-- The word that `with` writes, and the one that `without` writes.
pub joined_with : (words : List ℕ) (n : ℕ) → AreWords words → n < 256
    → joined (set words (n / 64) (bit_or (get_or words (n / 64) 0) (1 * 2 ^ (n % 64) % 2 ^ 64))) ≡ including (joined words) n
joined_with words n h small = joined_written words n _ _ h small
    (or_lt 64 _ _ (h.fit (n / 64)) (omega arith))
    (bit_at_set_same w64 (get_or words (n / 64) 0) (n % 64) (rest_below n) ∙ sym (bit_at-including_same (joined words) n))
    (λ i below other. bit_at_set_other w64 (get_or words (n / 64) 0) (n % 64) (rest_below n) i other)
    (bit_at-including_other (joined words) n)

pub joined_without : (words : List ℕ) (n : ℕ) → AreWords words → n < 256
    → joined (set words (n / 64) (bit_and (get_or words (n / 64) 0) (bit_not w64 (1 * 2 ^ (n % 64) % 2 ^ 64)))) ≡ excluding (joined words) n
joined_without words n h small = joined_written words n _ _ h small
    (lt_of_le_of_lt (and_le_l _ _) (h.fit (n / 64)))
    (bit_at_clear_same w64 (get_or words (n / 64) 0) (n % 64) (rest_below n) ∙ sym (bit_at-excluding_same (joined words) n))
    (λ i below other. bit_at_clear_other w64 (get_or words (n / 64) 0) (n % 64) (rest_below n) i below other)
    (bit_at-excluding_other (joined words) n)

-- The bit that `has` reads.
pub bit_read : (words : List ℕ) (n : ℕ) → AreWords words → bit_and (get_or words (n / 64) 0 / 2 ^ (n % 64)) 1 ≡ bit_at (joined words) n
bit_read words n h = shr_and_one (get_or words (n / 64) 0) (n % 64) ∙ sym (bit_at-joined words n h.fit)
