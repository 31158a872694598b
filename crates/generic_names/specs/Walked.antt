-- What a walk along a pattern and a name tells. A word of the crate's own functions.
use Rattle.std.specs.Prelude.{◌≡◌, ℕ, ◌+◌, ◌<◌, ◌≤◌, Bool, true, false, List, length}
use Rattle.generic_names.specs.declared.kind.NameKind.{NameKind}
use Rattle.generic_names.specs.declared.covering.WalkEnd.{WalkEnd}
use Rattle.generic_names.specs.declared.covering.WalkEnd.TheVariants.{Covered, Refused, Double}
use Rattle.generic_names.specs.Covers.{covers_all, some_end}
use Rattle.generic_names.specs.Reading.{rest_at}

-- whether the pattern from a place on covers the name from a place on, or some end of that
abbrev pub covers_at : NameKind → List ℕ → ℕ → List ℕ → ℕ → Bool
covers_at kind pattern at name from = covers_all kind (rest_at pattern at) (rest_at name from)

abbrev pub covers_end_at : NameKind → List ℕ → ℕ → List ℕ → ℕ → Bool
covers_end_at kind pattern at name from = some_end (λ end. covers_all kind (rest_at pattern at) end) (rest_at name from)

-- Behind a `**` some end of the name is left. The walk is as good from there as it was from its beginning,
-- and no other beginning in the name gives more.
pub record LeftAt (kind : NameKind) (pattern : List ℕ) (at : ℕ) (name : List ℕ) (from later there : ℕ) : Type 0 where
  pub forward : at < later
  pub pattern_end : later ≤ length pattern + 1
  pub onward : from ≤ there
  pub name_end : there ≤ length name + 1
  pub same : covers_at kind pattern at name from ≡ covers_end_at kind pattern later name there
  pub some : covers_end_at kind pattern at name from ≡ covers_end_at kind pattern later name there

abbrev pub Walked : NameKind → List ℕ → ℕ → List ℕ → ℕ → WalkEnd → Type 0
Walked kind pattern at name from Covered = covers_at kind pattern at name from ≡ true
Walked kind pattern at name from Refused = covers_at kind pattern at name from ≡ false
Walked kind pattern at name from (Double later there) = LeftAt kind pattern at name from later there
