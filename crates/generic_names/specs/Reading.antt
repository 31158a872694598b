-- Words of the crate's own functions, which go through a text by places. No public contract rests on them.
use Rattle.std.specs.Prelude.{ℕ, List, [], ◌∷◌}
use Rattle.std.proofs.Common.{zero, suc}
use Rattle.generic_names.specs.Spelled.{qualifiers}

-- the qualifiers of a text from a place on; none where the place lies past its end
abbrev pub rest_at : List ℕ → ℕ → List (List ℕ)
rest_at text zero = qualifiers text
rest_at [] (suc at) = []
rest_at (b ∷ text) (suc at) = rest_at text at
