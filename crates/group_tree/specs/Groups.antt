-- The list of the groups, each with its superior group and its owner, and how a call changes it.
use Rattle.std.specs.Prelude.{ℕ, List, [], ◌∷◌, ◌++◌, map, find, not, if◌then◌else◌, Option, Some, is_some, bytes_eq}
use Rattle.std.specs.Option.{option_eq}
use Rattle.racf_profiles.specs.declared.groups.Group.{Group}
use Rattle.racf_profiles.specs.Lookup.{is_group, find_group}

-- What contracts see of a tree: its groups in order of definition, and how many can still be added
-- without memory.
pub record GroupTree : Type 0 where
  pub groups : List Group
  pub spare : ℕ

-- The first of these names that no group has.
abbrev pub first_absent : List Group → List (List ℕ) → Option (List ℕ)
first_absent groups ids = find (λ id. not (is_some (find_group groups id))) ids

-- The first group, in order of definition, whose superior group has that name.
abbrev pub first_subgroup : List Group → List ℕ → Option Group
first_subgroup groups id = find (λ group. option_eq bytes_eq group.superior (Some id)) groups

-- The groups with one more, which goes last.
abbrev pub with_group : List Group → (group superior owner : List ℕ) → List Group
with_group groups group superior owner = groups ++ record { id = group; superior = Some superior; owner = owner } ∷ []

-- The groups, with the one of that name changed in its place.
abbrev pub at_group : List ℕ → (Group → Group) → List Group → List Group
at_group id change groups = map {A = Group} {B = Group} (λ group. if is_group id group then change group else group) groups

-- The group, with that superior group, or that owner.
abbrev pub with_superior : (superior : List ℕ) → Group → Group
with_superior superior group = record group { superior = Some superior }

abbrev pub with_owner : (owner : List ℕ) → Group → Group
with_owner owner group = record group { owner = owner }
