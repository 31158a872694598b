-- The front of a list as far as the first element that passes a test.
use Rattle.std.proofs.Common.{◌≡◌, ℕ, ◌≤◌, Bool, true, false, List, length, take, None, Some, refl, sym, ap, cond, arith}
use Rattle.std.specs.Prelude.{position, nat_lt}
use Rattle.std.specs.List.{position_or_len, before_first}
use Rattle.std.proofs.lemmas.List.{take_all}
use Rattle.std.proofs.lemmas.Bool.Decides.{nat_tests}

found_by : {X : Type 0} (b : Bool) (k n : ℕ) (xs : List X) → cond b (Some k) None ≡ Some n → take n xs ≡ take k xs
found_by true k n xs e = let same : k ≡ n = cc in ap (λ m. take m xs) (sym same)
found_by false k n xs e = cc

pub before_first-some : {X : Type 0} (p : X → Bool) (xs : List X) (n : ℕ) → position p xs ≡ Some n → take n xs ≡ before_first p xs
before_first-some p xs n e = found_by (nat_lt (position_or_len p xs) (length xs)) (position_or_len p xs) n xs e

none_by : {X : Type 0} (b : Bool) (k : ℕ) (xs : List X) → nat_lt k (length xs) ≡ b → cond b (Some k) None ≡ None → xs ≡ take k xs
none_by true k xs test e = cc
none_by false k xs test e = let behind : length xs ≤ k = grind (arith, nat_tests) in sym (take_all k xs behind)

pub before_first-none : {X : Type 0} (p : X → Bool) (xs : List X) → position p xs ≡ None → xs ≡ before_first p xs
before_first-none p xs e = none_by (nat_lt (position_or_len p xs) (length xs)) (position_or_len p xs) xs refl e
