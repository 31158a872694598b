-- Sets of the category numbers 0 to 255. A set is the number whose bit n tells whether n is in it.
use Rattle.std.specs.Prelude.{◌≡◌, ℕ, ◌^◌, ◌<◌, Bool, false, ◌==◌, ◌&&◌, not, Option, MatchOption, IsTrue, bit_or, bit_xor}
use Rattle.std.specs.Int.{bit_at}
use Rattle.std.specs.List.{find, range_with_len}

-- The number n is in the set.
abbrev pub is_member : ℕ → ℕ → Bool
is_member set n = bit_at set n == 1

-- The set with n, and the set without n.
abbrev pub including : ℕ → ℕ → ℕ
including set n = bit_or set (2 ^ n)

abbrev pub excluding : ℕ → ℕ → ℕ
excluding set n = bit_xor (including set n) (2 ^ n)

-- The number n is wanted and not in the set.
abbrev pub is_missing : ℕ → ℕ → ℕ → Bool
is_missing set wanted n = is_member wanted n && not (is_member set n)

-- The least number that is missing.
unfoldable pub first_missing : ℕ → ℕ → Option ℕ
first_missing set wanted = find (is_missing set wanted) (range_with_len 0 256)

-- The same as a fact: none is missing, or n is and none below it.
abbrev pub IsFirstMissing : ℕ → ℕ → Option ℕ → Type 0
IsFirstMissing set wanted first = MatchOption first ((m : ℕ) → m < 256 → is_missing set wanted m ≡ false) (λ n. (n < 256) × IsTrue (is_missing set wanted n) × ((m : ℕ) → m < n → is_missing set wanted m ≡ false))
