-- The length in the first four bytes.
use Rattle.std.proofs.Common.{◌≡◌, ℕ, zero, suc, ◌<◌, ◌≤◌, ◌^◌, List, [], ◌∷◌, ◌++◌, length, drop, refl, sym, ap, ◌∙◌, arith}
use Rattle.std.specs.Int.{w32, from_be_bytes}
use Rattle.std.proofs.lemmas.Nat.{be_bytes_4}
use Rattle.byteorder.specs.Numbers.{big_number-reads_back}
use Rattle.byteorder.specs.Endian.{big_bytes, big_number}
use Rattle.journal_records.specs.Spelling.{AreBytes}

same_number : (a b c d : ℕ) → big_number 4 (a ∷ b ∷ c ∷ d ∷ []) ≡ from_be_bytes w32 (a ∷ b ∷ c ∷ d ∷ [])
same_number a b c d = omega arith

four : (a b c d n : ℕ) → AreBytes (a ∷ b ∷ c ∷ d ∷ []) → big_number 4 (a ∷ b ∷ c ∷ d ∷ []) ≡ n → big_bytes 4 n ≡ a ∷ b ∷ c ∷ d ∷ []
four a b c d n fits h = be_bytes_4 (a ∷ b ∷ c ∷ d ∷ []) n refl fits (sym h ∙ same_number a b c d)

fits_front : (bytes : List ℕ) → (a b c d : ℕ) (rest : List ℕ) → bytes ≡ a ∷ b ∷ c ∷ d ∷ rest → AreBytes bytes → AreBytes (a ∷ b ∷ c ∷ d ∷ [])
fits_front bytes a b c d rest is fits zero = let h = rw is at (fits 0) in h
fits_front bytes a b c d rest is fits (suc zero) = let h = rw is at (fits 1) in h
fits_front bytes a b c d rest is fits (suc (suc zero)) = let h = rw is at (fits 2) in h
fits_front bytes a b c d rest is fits (suc (suc (suc zero))) = let h = rw is at (fits 3) in h
fits_front bytes a b c d rest is fits (suc (suc (suc (suc i)))) = omega arith

-- The length is the four bytes that it was read from.
pub length-back : (bytes : List ℕ) (n : ℕ) → 4 ≤ length bytes → AreBytes bytes → big_number 4 bytes ≡ n → bytes ≡ big_bytes 4 n ++ drop 4 bytes
length-back [] n long fits h = absurd (omega arith)
length-back (a ∷ []) n long fits h = absurd (omega arith)
length-back (a ∷ b ∷ []) n long fits h = absurd (omega arith)
length-back (a ∷ b ∷ c ∷ []) n long fits h = absurd (omega arith)
length-back (a ∷ b ∷ c ∷ d ∷ rest) n long fits h =
    sym (ap (λ (front : List ℕ). front ++ rest) (four a b c d n (fits_front (a ∷ b ∷ c ∷ d ∷ rest) a b c d rest refl fits) h))

-- Four bytes in front are read as the length that they were written for.
pub length-again : (n : ℕ) (rest : List ℕ) → n < 2 ^ 32 → big_number 4 (big_bytes 4 n ++ rest) ≡ n
length-again n rest h = big_number-reads_back 4 n rest (omega (arith, h))
