-- Ways up through the groups, and what is in scope of a group.
use Rattle.std.specs.Prelude.{◌≡◌, ℕ, ◌⊎◌, List, [], ◌∷◌, Some, IsSomeAnd}
use Rattle.racf_profiles.specs.declared.groups.Group.{Group}
use Rattle.racf_profiles.specs.declared.rows.Rows.{Rows}
use Rattle.racf_profiles.specs.Lookup.{find_group, IsGroup, user_of}

-- The group has that one as its superior group.
abbrev pub IsUnder : Group → List ℕ → Type 0
IsUnder group above = group.superior ≡ Some above

-- The group has that one as its superior group and as its owner.
abbrev pub IsUnderOwner : Group → List ℕ → Type 0
IsUnderOwner group above = (group.superior ≡ Some above) × (group.owner ≡ above)

-- A list of groups, `first` and then `others`, that ends with `last`: each but the last is linked to
-- the next one.
abbrev pub IsWay : (Group → List ℕ → Type 0) → List Group → (first : List ℕ) → (others : List (List ℕ)) → (last : List ℕ) → Type 0
IsWay IsLinked groups first [] last = IsGroup groups first × (first ≡ last)
IsWay IsLinked groups first (next ∷ others) last = IsSomeAnd (find_group groups first) (λ group. IsLinked group next) × IsWay IsLinked groups next others last

-- The group is `top` or below it: superior groups lead from it to `top`.
pub record IsWithin (groups : List Group) (top group : List ℕ) : Type 0 where
  pub others : List (List ℕ)
  pub way : IsWay IsUnder groups group others top

-- A group is in scope of `top` when there is a list of groups that begins with it and ends with `top`, in
-- which each but the last has the next one as its superior group and as its owner.
pub record InScopeGroup (groups : List Group) (top group : List ℕ) : Type 0 where
  pub others : List (List ℕ)
  pub way : IsWay IsUnderOwner groups group others top

-- A user is in scope when its owner is a group in scope.
abbrev pub InScopeUser : List Group → (top owner : List ℕ) → Type 0
InScopeUser groups top owner = InScopeGroup groups top owner

-- A profile is in scope when its owner is a group in scope or a user in scope.
abbrev pub InScopeProfile : Rows → (top owner : List ℕ) → Type 0
InScopeProfile rows top owner = InScopeGroup rows.groups top owner ⊎ IsSomeAnd (user_of owner rows) (λ user. InScopeUser rows.groups top user.owner)
