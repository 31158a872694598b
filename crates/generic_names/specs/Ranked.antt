-- Ranks from a place in a name on. Words of the crate's own functions.
use Rattle.std.specs.Prelude.{ℕ, Bool, false, List, [], ◌∷◌, ◌++◌, map, if◌then◌else◌}
use Rattle.generic_names.specs.Covers.{is_double}
use Rattle.generic_names.specs.Before.{rank, ranks}
use Rattle.generic_names.specs.Reading.{rest_at}

-- the ranks of qualifiers, the first of which isn't read as a whole
abbrev pub ranks_within : List (List ℕ) → List ℕ
ranks_within [] = 259 ∷ []
ranks_within (q ∷ qs) = map rank q ++ 257 ∷ ranks qs

-- the ranks from a place on, which may be where a qualifier begins
abbrev pub ranks_at : List ℕ → Bool → ℕ → List ℕ
ranks_at text begins at = if begins then ranks (rest_at text at) else ranks_within (rest_at text at)

-- whether the first of some qualifiers is a whole `**`
abbrev pub first_is_double : List (List ℕ) → Bool
first_is_double [] = false
first_is_double (q ∷ qs) = is_double q
