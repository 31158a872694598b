-- The first that passes a test among what a list's elements are seen as.
use Rattle.std.proofs.Common.{◌≡◌, List, [], ◌∷◌, map, Bool, true, false, cond, Some, option_map, refl}
use Rattle.std.specs.Prelude.{find}

pub find_mapped : {X Y : Type 0} (f : X → Y) (test : Y → Bool) (xs : List X) → find test (map f xs) ≡ option_map f (find (λ x. test (f x)) xs)
find_mapped f test [] = refl
find_mapped f test (x ∷ xs) = tested (test (f x)) (find_mapped f test xs)
  where
    tested : (b : Bool) → find test (map f xs) ≡ option_map f (find (λ x. test (f x)) xs) → cond b (Some (f x)) (find test (map f xs)) ≡ option_map f (cond b (Some x) (find (λ x. test (f x)) xs))
    tested true h = refl
    tested false h = h
