-- When each call that changes a tree succeeds, and when it answers each fault. The causes of a call exclude
-- each other and its success, so each comes exactly where its cause stands.
use Rattle.std.specs.Prelude.{◌≡◌, ℕ, ◌<◌, List, [], ◌∷◌, length, Some, None, option_map}
use Rattle.racf_profiles.specs.declared.groups.Group.{Group}
use Rattle.group_tree.specs.declared.faults.TreeFault.{TreeFault}
use Rattle.group_tree.specs.declared.faults.TreeFault.TheVariants.{NoGroup, Exists, Cycle, HasSubgroup, Full, NoMemory}
use Rattle.group_tree.specs.Groups.{GroupTree, first_absent, first_subgroup}
use Rattle.racf_profiles.specs.Lookup.{find_group, IsGroup}
use Rattle.racf_profiles.specs.Scope.{IsWithin}
use Rattle.racf_profiles.specs.Limits.{most_groups}

-- `add`: the superior group is there, the new name is free, and the tree isn't full.
pub record CanAdd (groups : List Group) (group superior : List ℕ) : Type 0 where
  pub superior_there : first_absent groups (superior ∷ []) ≡ None
  pub name_free : find_group groups group ≡ None
  pub room : length groups < most_groups

abbrev pub AddRefused : GroupTree → (group superior : List ℕ) → TreeFault → Type 0
AddRefused tree group superior (NoGroup id) = first_absent tree.groups (superior ∷ []) ≡ Some id
AddRefused tree group superior (Exists id) = (first_absent tree.groups (superior ∷ []) ≡ None) × (id ≡ group) × IsGroup tree.groups group
AddRefused tree group superior Full = (first_absent tree.groups (superior ∷ []) ≡ None) × (find_group tree.groups group ≡ None) × (length tree.groups ≡ most_groups)
AddRefused tree group superior NoMemory = CanAdd tree.groups group superior × (tree.spare ≡ 0)
AddRefused tree group superior _ = ⊥

-- `set_superior`: both groups are there, and the new superior group isn't the group or below it.
pub record CanMove (groups : List Group) (group superior : List ℕ) : Type 0 where
  pub both_there : first_absent groups (group ∷ superior ∷ []) ≡ None
  pub no_cycle : ¬ (IsWithin groups group superior)

abbrev pub MoveRefused : List Group → (group superior : List ℕ) → TreeFault → Type 0
MoveRefused groups group superior (NoGroup id) = first_absent groups (group ∷ superior ∷ []) ≡ Some id
MoveRefused groups group superior (Cycle id) = (first_absent groups (group ∷ superior ∷ []) ≡ None) × (id ≡ group) × IsWithin groups group superior
MoveRefused groups group superior _ = ⊥

-- `set_owner`: the group is there.
abbrev pub OwnerRefused : List Group → (group : List ℕ) → TreeFault → Type 0
OwnerRefused groups group (NoGroup id) = first_absent groups (group ∷ []) ≡ Some id
OwnerRefused groups group _ = ⊥

-- `remove`: the group is there, and it is no superior group.
pub record CanRemove (groups : List Group) (group : List ℕ) : Type 0 where
  pub there : first_absent groups (group ∷ []) ≡ None
  pub no_subgroup : first_subgroup groups group ≡ None

abbrev pub RemoveRefused : List Group → (group : List ℕ) → TreeFault → Type 0
RemoveRefused groups group (NoGroup id) = first_absent groups (group ∷ []) ≡ Some id
RemoveRefused groups group (HasSubgroup id) = (first_absent groups (group ∷ []) ≡ None) × (option_map (λ row. row.id) (first_subgroup groups group) ≡ Some id)
RemoveRefused groups group _ = ⊥
