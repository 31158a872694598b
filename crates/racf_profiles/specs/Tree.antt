-- What every tree of groups keeps.
use Rattle.std.specs.Prelude.{◌≡◌, ℕ, ◌≤◌, ◌↔◌, List, map, length, Some, None, IsSomeAnd, bytes_eq}
use Rattle.std.specs.List.{IsDistinct}
use Rattle.racf_profiles.specs.declared.groups.Group.{Group}
use Rattle.racf_profiles.specs.NewDatabase.{sys1}
use Rattle.racf_profiles.specs.Limits.{most_groups}
use Rattle.racf_profiles.specs.Lookup.{find_group, IsGroup}
use Rattle.racf_profiles.specs.Scope.{IsWithin}

-- No two groups have one name. SYS1 is there, it alone has no superior group, and superior groups lead from
-- every group to it: so each superior group is there, and no group is below itself.
pub record IsTree (groups : List Group) : Type 0 where
  pub distinct : IsDistinct bytes_eq (map (λ group. group.id) groups)
  pub most : length groups ≤ most_groups
  pub root : IsGroup groups sys1.id
  pub root_alone : (id : List ℕ) (group : Group) → find_group groups id ≡ Some group → ((group.superior ≡ None) ↔ (id ≡ sys1.id))
  pub upwards : (id : List ℕ) → IsGroup groups id → IsWithin groups sys1.id id

-- The group is below `top`: its superior group is `top` or below it.
abbrev pub IsBelow : List Group → (top group : List ℕ) → Type 0
IsBelow groups top group = IsSomeAnd (find_group groups group) (λ row. IsSomeAnd row.superior (IsWithin groups top))
