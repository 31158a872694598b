-- What a command is about, as its issuer's authority over it is judged: who owns it, and whether group-SPECIAL reaches
-- it. Nobody owns what isn't there, and it is in no scope.
use Rattle.std.specs.Prelude.{ℕ, Bool, false, ◌&&◌, List, Option, None, option_map, bytes_eq}
use Rattle.std.specs.List.{list_any}
use Rattle.std.specs.Option.{option_map_or}
use Rattle.access_levels.specs.declared.authorities.GroupAuthority.{GroupAuthority}
use Rattle.generic_names.specs.Spelled.{first_qualifier}
use Rattle.racf_profiles.specs.declared.users.User.{User}
use Rattle.racf_profiles.specs.declared.users.Connect.{Connect as Connection}
use Rattle.racf_profiles.specs.declared.groups.Group.{Group}
use Rattle.racf_profiles.specs.declared.profiles.Profile.{Profile}
use Rattle.racf_profiles.specs.declared.rows.Rows.{Rows}
use Rattle.racf_profiles.specs.Lookup.{user_of, group_of, profile_of}
use Rattle.group_tree.specs.ScopeTest.{is_group_in_scope, is_profile_in_scope}
use Rattle.command_authority.specs.declared.requirement.Target.{Target}
use Rattle.command_authority.specs.declared.requirement.Target.TheVariants as targets
use Rattle.command_authority.specs.Held.{counting, has_alter, has_authority}

-- Its owner.
abbrev pub owner_of : Rows → Target → Option (List ℕ)
owner_of rows targets.Nothing = None
owner_of rows (targets.User id) = option_map (λ (user : User). user.owner) (user_of id rows)
owner_of rows (targets.Group id) = option_map (λ (group : Group). group.owner) (group_of id rows)
owner_of rows (targets.Profile class name) = option_map (λ (profile : Profile). profile.owner) (profile_of class name rows)
owner_of rows (targets.DataSets qualifier) = None

-- It is in scope of a group. The data sets that begin with the ID of a user or a group are where that one is.
abbrev pub is_in_scope : Rows → (top : List ℕ) → Target → Bool
is_in_scope rows top targets.Nothing = false
is_in_scope rows top (targets.User id) = option_map_or (λ (user : User). is_group_in_scope rows.groups top user.owner) (user_of id rows) false
is_in_scope rows top (targets.Group id) = is_group_in_scope rows.groups top id
is_in_scope rows top (targets.Profile class name) = option_map_or (λ (profile : Profile). is_profile_in_scope rows top profile.owner) (profile_of class name rows) false
is_in_scope rows top (targets.DataSets qualifier) = is_profile_in_scope rows top qualifier

-- The user owns it.
abbrev pub is_owner : Rows → User → Target → Bool
is_owner rows user target = option_map_or (λ owner. bytes_eq owner user.id) (owner_of rows target) false

-- The user has group-SPECIAL in a group in whose scope it is.
abbrev pub has_group_special : Rows → User → Target → Bool
has_group_special rows user target = list_any (λ (connection : Connection). connection.special && is_in_scope rows connection.group target) (counting user)

-- A user's own data sets begin with his ID.
abbrev pub is_own_data : User → Target → Bool
is_own_data user (targets.Profile class name) = bytes_eq (first_qualifier name.text) user.id
is_own_data user (targets.DataSets qualifier) = bytes_eq qualifier user.id
is_own_data user _ = false

-- The profile's standard list gives the user ALTER.
abbrev pub has_alter_entry : Rows → User → Target → Bool
has_alter_entry rows user (targets.Profile class name) = option_map_or (λ (profile : Profile). has_alter user profile.standard) (profile_of class name rows) false
has_alter_entry rows user _ = false

-- It is a group in which the user has at least the authority that is wanted.
abbrev pub has_authority_in : User → GroupAuthority → Target → Bool
has_authority_in user wanted (targets.Group id) = has_authority user wanted id
has_authority_in user wanted _ = false
