-- The bytes of a decimal number are digits.
use Rattle.std.proofs.Common.{ℕ, zero, suc, ◌<◌, ◌≤◌, ◌/◌, ◌%◌, Bool, true, false, List, [], ◌∷◌, arith}
use Rattle.std.specs.Prelude.{◌==◌, decimal, if◌then◌else◌}
use Rattle.std.specs.Fmt.{digits, digits_onto, digit_glyph}
use Rattle.std.proofs.Math.Nat.{mod-lt}
use Rattle.std.proofs.lemmas.Bool.Decides.{nat_tests}

abbrev pub AllDigits : List ℕ → Type 0
AllDigits [] = Unit {0}
AllDigits (b ∷ bs) = (48 ≤ b) × (b < 58) × AllDigits bs

glyph_least : (d : ℕ) → d < 10 → 48 ≤ digit_glyph false d
glyph_least d h = grind (arith, nat_tests)

glyph_most : (d : ℕ) → d < 10 → digit_glyph false d < 58
glyph_most d h = grind (arith, nat_tests)

either_digits : (b : Bool) (xs ys : List ℕ) → AllDigits xs → AllDigits ys → AllDigits (if b then xs else ys)
either_digits true xs ys p q = p
either_digits false xs ys p q = q

one_more : (n : ℕ) (acc : List ℕ) → AllDigits acc → AllDigits (digit_glyph false (n % 10) ∷ acc)
one_more n acc h =
    let within : n % 10 < 10 = mod-lt n (omega arith) in
    (glyph_least (n % 10) within, glyph_most (n % 10) within, h)

digits_onto-AllDigits : (k n : ℕ) (acc : List ℕ) → AllDigits acc → AllDigits (digits_onto k 10 false n acc)
digits_onto-AllDigits zero n acc h = h
digits_onto-AllDigits (suc k) n acc h =
    either_digits (n / 10 == 0) _ _ (one_more n acc h) (digits_onto-AllDigits k (n / 10) (digit_glyph false (n % 10) ∷ acc) (one_more n acc h))

pub decimal-AllDigits : (n : ℕ) → AllDigits (decimal n)
unfolding digits
decimal-AllDigits n = digits_onto-AllDigits 64 n [] tt
