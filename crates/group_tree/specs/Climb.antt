-- The two kinds of walks up, by superior groups and by owning superior groups.
use Rattle.std.specs.Prelude.{ℕ, List, Option, Some, None, if◌then◌else◌, bytes_eq}
use Rattle.std.specs.Option.{option_eq}
use Rattle.racf_profiles.specs.declared.groups.Group.{Group}
use Rattle.group_tree.specs.declared.climb.Climb.{Climb}
use Rattle.group_tree.specs.declared.climb.Climb.TheVariants.{BySuperiors, ByOwners}
use Rattle.racf_profiles.specs.Scope.{IsUnder, IsUnderOwner, IsWay}

-- The next group up, if the walk goes on.
abbrev pub above : Climb → Group → Option (List ℕ)
above BySuperiors group = group.superior
above ByOwners group = if option_eq bytes_eq group.superior (Some group.owner) then group.superior else None

abbrev pub IsLinkedBy : Climb → Group → List ℕ → Type 0
IsLinkedBy BySuperiors = IsUnder
IsLinkedBy ByOwners = IsUnderOwner

-- There is a way from the one group to the other.
pub record LeadsUp (climb : Climb) (groups : List Group) (from to : List ℕ) : Type 0 where
  pub others : List (List ℕ)
  pub way : IsWay (IsLinkedBy climb) groups from others to
