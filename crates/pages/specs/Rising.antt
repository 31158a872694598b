-- Tests that hold from some place on.
use Rattle.std.specs.Prelude.{◌≡◌, ℕ, Bool, true, not, List, [], ◌∷◌}
use Rattle.std.specs.List.{list_all}
use Rattle.std.specs.Ordering.{nat_cmp, is_lt}
use Rattle.std.specs.Cmp.Lexicographic.{slice_cmp}

module _ {T : Type 0} (passes : T → Bool) where
  -- once an item passes, all behind it do
  abbrev pub Rises : List T → Type 0
  Rises [] = Unit {0}
  Rises (x ∷ xs) = (passes x ≡ true → list_all passes xs ≡ true) × Rises xs

-- whether the key of an item isn't lower than this one
abbrev pub reaches : {T : Type 0} → (T → List ℕ) → List ℕ → T → Bool
reaches key_of key item = not (is_lt (slice_cmp nat_cmp (key_of item) key))
