-- Ways up through the groups, so many steps at a time, and what is kept of the groups while facts are tested.
use Rattle.std.specs.Prelude.{◌≡◌, ℕ, zero, suc, Bool, List, Option, Some, option_map, bytes_eq}
use Rattle.std.specs.List.{list_any}
use Rattle.std.specs.Option.{option_eq, option_and_then}
use Rattle.indexmap.specs.IndexMap.{IndexMap, get}
use Rattle.indexmap.specs.IndexSet.{IndexSet, contains}
use Rattle.racf_profiles.specs.declared.groups.Group.{Group}
use Rattle.racf_profiles.specs.Lookup.{find_group}

-- The superior group of the group of that name.
abbrev pub above : List Group → List ℕ → Option (List ℕ)
above groups id = option_and_then (λ (row : Group). row.superior) (find_group groups id)

-- Where so many steps up lead.
unfoldable pub climbed : (steps : ℕ) → List Group → List ℕ → Option (List ℕ)
climbed zero groups id = Some id
climbed (suc steps) groups id = option_and_then (climbed steps groups) (above groups id)

-- So many steps up from some group lead to that one.
abbrev pub is_reached : (steps : ℕ) → List Group → List ℕ → Bool
is_reached steps groups id = list_any (λ (row : Group). option_eq bytes_eq (climbed steps groups row.id) (Some id)) groups

-- ---- what maps and sets say of every name
-- Which groups there are, and the superior group of each.
abbrev pub IsIndexOf : {S : Type 0} → List Group → IndexMap (List ℕ) (Option (List ℕ)) S → Type 0
IsIndexOf groups index = (id : List ℕ) → get bytes_eq index id ≡ option_map (λ (row : Group). row.superior) (find_group groups id)

-- Where so many steps up lead from each name.
abbrev pub AreWays : {S : Type 0} → (steps : ℕ) → List Group → IndexMap (List ℕ) (List ℕ) S → Type 0
AreWays steps groups ways = (id : List ℕ) → get bytes_eq ways id ≡ climbed steps groups id

-- The groups at which such ways end.
abbrev pub AreReached : {S : Type 0} → (steps : ℕ) → List Group → IndexSet (List ℕ) S → Type 0
AreReached steps groups ends = (id : List ℕ) → contains bytes_eq ends id ≡ is_reached steps groups id
