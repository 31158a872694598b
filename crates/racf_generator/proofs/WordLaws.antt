-- The place of the first blank.
use Rattle.std.proofs.Common.{ℕ, ◌≤◌, ◌≡◌, ltb, Bool, true, false, cond, List, length, None, Some, refl, arith}
use Rattle.std.specs.Prelude.{not, position}
use Rattle.std.specs.List.{position_or_len}
use Rattle.std.proofs.lemmas.Bool.{ltb-false}
use Rattle.std.proofs.lemmas.List.Sums.{prefix_len-le-length}

some_place : (b : Bool) (place i : ℕ) → cond b (Some place) None ≡ Some i → i ≡ place
some_place true place i h = cc
some_place false place i h = cc

no_place : (b : Bool) (place size : ℕ) → ltb place size ≡ b → cond b (Some place) None ≡ None → place ≤ size → size ≡ place
no_place true place size b h most = cc
no_place false place size b h most = omega (arith, ltb-false place size b)

-- where one is found
pub position-Some_is : (p : ℕ → Bool) (xs : List ℕ) (i : ℕ) → position p xs ≡ Some i → i ≡ position_or_len p xs
position-Some_is p xs i h = some_place (ltb (position_or_len p xs) (length xs)) (position_or_len p xs) i h

-- where there is none
pub position-None_is : (p : ℕ → Bool) (xs : List ℕ) → position p xs ≡ None → length xs ≡ position_or_len p xs
position-None_is p xs h = no_place (ltb (position_or_len p xs) (length xs)) (position_or_len p xs) (length xs) refl h (prefix_len-le-length (λ x. not (p x)) xs)
