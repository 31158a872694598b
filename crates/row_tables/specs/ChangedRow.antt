-- A row that is changed in its place.
use Rattle.std.specs.Prelude.{Bool, List, [], ◌∷◌, if◌then◌else◌}

-- The row of a name, changed in its place.
abbrev pub at_row : {X : Type 0} → (X → Bool) → (X → X) → List X → List X
at_row is_it change [] = []
at_row is_it change (row ∷ rows) = if is_it row then change row ∷ rows else row ∷ at_row is_it change rows
