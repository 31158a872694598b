-- What is in scope of a group, as a test that tries the way up step by step.
use Rattle.std.specs.Prelude.{ℕ, zero, suc, Bool, false, ◌||◌, List, length, Option, Some, None, bytes_eq, if◌then◌else◌}
use Rattle.std.specs.Option.{option_eq, option_map_or}
use Rattle.racf_profiles.specs.declared.groups.Group.{Group}
use Rattle.racf_profiles.specs.declared.users.User.{User}
use Rattle.racf_profiles.specs.declared.rows.Rows.{Rows}
use Rattle.racf_profiles.specs.Lookup.{user_of, find_group}

-- The superior group, where it owns the group.
abbrev pub owning_superior : Group → Option (List ℕ)
owning_superior group = if option_eq bytes_eq group.superior (Some group.owner) then group.superior else None

-- A group is in scope of `top` when it is `top`, or when its owner is its superior group and that one is in scope:
-- within so many steps up.
abbrev pub is_in_reach : ℕ → List Group → (top group : List ℕ) → Bool
is_in_reach zero groups top id = false
is_in_reach (suc steps) groups top id = option_map_or (λ group. bytes_eq id top || option_map_or (λ superior. is_in_reach steps groups top superior) (owning_superior group) false) (find_group groups id) false

-- No way up has more groups than there are.
abbrev pub is_group_in_scope : List Group → (top group : List ℕ) → Bool
is_group_in_scope groups top id = is_in_reach (length groups) groups top id

-- A profile is in scope when its owner is a group in scope, or a user whom a group in scope owns.
abbrev pub is_profile_in_scope : Rows → (top owner : List ℕ) → Bool
is_profile_in_scope rows top owner = is_group_in_scope rows.groups top owner || option_map_or (λ (user : User). is_group_in_scope rows.groups top user.owner) (user_of owner rows) false
