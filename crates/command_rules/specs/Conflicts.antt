-- What a command conflicts with. Conflicts are judged on the rows before the command; LastSpecial, OwnerNotSuperior and
-- Full alone speak of the rows after it.
use Rattle.std.specs.Prelude.{ℕ, zero, suc, Bool, ◌&&◌, not, ◌==◌, List, [], ◌∷◌, length, Option, None, Some, is_some, find, option_map, option_and_then, codes, bytes_eq}
use Rattle.std.specs.List.{list_any}
use Rattle.std.specs.Option.{option_map_or, option_eq}
use Rattle.racf_profiles.specs.declared.users.User.{User}
use Rattle.racf_profiles.specs.declared.groups.Group.{Group}
use Rattle.racf_profiles.specs.declared.rows.Rows.{Rows}
use Rattle.racf_profiles.specs.declared.users.Connect.{Connect as Connection}
use Rattle.racf_profiles.specs.Lookup.{user_of, group_of, find_group}
use Rattle.group_tree.specs.Groups.{first_subgroup}
use Rattle.command_rules.specs.declared.conflict.Conflict.{Conflict}
use Rattle.command_rules.specs.declared.conflict.Conflict.TheVariants.{Root, InUse, Cycle, OwnerNotSuperior, DefaultGroup, LastSpecial}
use Rattle.command_rules.specs.declared.conflict.Holder.TheVariants.{Subgroup, Connected, Profile as ProfileOf}
use Rattle.command_rules.specs.declared.conflict.Limit.TheVariants.{Users, Groups, Connections, AllConnections}
use Rattle.command_fields.specs.declared.issuer.Issuer.{Issuer}
use Rattle.command_fields.specs.declared.fields.AddUser.{AddUser}
use Rattle.command_fields.specs.declared.fields.AltUser.{AltUser}
use Rattle.command_fields.specs.declared.fields.DelUser.{DelUser}
use Rattle.command_fields.specs.declared.fields.AddGroup.{AddGroup}
use Rattle.command_fields.specs.declared.fields.AltGroup.{AltGroup}
use Rattle.command_fields.specs.declared.fields.DelGroup.{DelGroup}
use Rattle.command_fields.specs.declared.fields.Connect.{Connect}
use Rattle.command_fields.specs.declared.fields.Remove.{Remove}
use Rattle.command_fields.specs.declared.fields.CommandFields.{CommandFields}
use Rattle.command_fields.specs.declared.fields.CommandFields.TheVariants as fields
use Rattle.class_profiles.specs.Classes.{first_under}
use Rattle.racf_profiles.specs.Limits.{most_users, most_groups, most_connections, most_connections_in_all}
use Rattle.racf_profiles.specs.Names.{is_connected_to, connects_of, special_users, connections}
use Rattle.command_rules.specs.Effects.{group_or_current, new_user, new_group, altered_group, connects_after, step}
use Rattle.command_rules.specs.Numbers.{met, is_early}
use Rattle.command_rules.specs.OptionConflicts.{set_ropts_conflicts}
use Rattle.command_rules.specs.ProfileConflicts.{add_sd_conflicts, alt_sd_conflicts, del_sd_conflicts, r_define_conflicts, r_alter_conflicts, define_class_conflicts, alter_class_conflicts, r_delete_conflicts, permit_conflicts}
unfoldable pub use Rattle.command_rules.specs.Required.{no_user, no_group, no_owner, no_named_group, no_class, name_taken, not_connected, default_not_connected, unknown_level, unknown_category, never_category, unknown_label}
pub use Rattle.command_rules.specs.Required.{if_met, first_met, over}

-- ---- what has to stay
unfoldable pub is_root : List ℕ → Bool
is_root group = bytes_eq group (codes "SYS1")

-- A group that others are below.
unfoldable pub has_subgroup : List ℕ → Rows → Option Conflict
has_subgroup id rows = option_map (λ subgroup. InUse (Subgroup subgroup)) (option_map (λ (group : Group). group.id) (first_subgroup rows.groups id))

-- A group that a user is connected to.
unfoldable pub has_connected : List ℕ → Rows → Option Conflict
has_connected id rows = option_map (λ (user : User). InUse (Connected user.id)) (find (is_connected_to id) rows.users)

-- A user or a group whose ID is the first qualifier of a data set profile, the first in order of specificity.
unfoldable pub has_profile : List ℕ → Rows → Option Conflict
has_profile id rows = option_map (λ name. InUse (ProfileOf name)) (first_under id rows.classes)

-- The groups that a walk up meets: the group itself, its superior group, and so on. No walk has more steps than there
-- are groups.
abbrev pub and_above : (List ℕ → List (List ℕ)) → Option Group → List (List ℕ)
and_above walk None = []
and_above walk (Some group) = group.id ∷ option_map_or walk group.superior []

abbrev pub walk_up : ℕ → List Group → List ℕ → List (List ℕ)
walk_up zero groups id = []
walk_up (suc steps) groups id = and_above (walk_up steps groups) (find_group groups id)

unfoldable pub meets : List ℕ → List ℕ → List Group → Bool
meets group from groups = list_any (λ met. bytes_eq met group) (walk_up (length groups) groups from)

-- ALTGROUP: the walk up from the new superior group meets the group.
unfoldable pub cycle : List ℕ → Option (List ℕ) → Rows → Option Conflict
cycle group None rows = None
cycle group (Some superior) rows = if_met (meets group superior rows.groups) (Cycle group)

-- A group that owns a group is its superior group. SYS1 has none, so that no group owns it.
abbrev pub owner_apart : Group → Rows → Option Conflict
owner_apart group rows = if_met (is_some (group_of group.owner rows) && not (option_eq bytes_eq group.superior (Some group.owner))) (OwnerNotSuperior group.owner)

-- It is asked where the command has SUPGROUP or OWNER, of the group after the command.
unfoldable pub owner_not_superior : Option (List ℕ) → Option (List ℕ) → Option Group → Rows → Option Conflict
owner_not_superior None None group rows = None
owner_not_superior (Some superior) owner group rows = option_and_then (λ group. owner_apart group rows) group
owner_not_superior None (Some owner) group rows = option_and_then (λ group. owner_apart group rows) group

-- REMOVE: the default group stays.
unfoldable pub default_group : List ℕ → List ℕ → Rows → Option Conflict
default_group id group rows = option_and_then (λ (user : User). if_met (bytes_eq user.default_group group) (DefaultGroup group)) (user_of id rows)

-- After the command no user who isn't revoked has SPECIAL.
unfoldable pub last_special : Issuer → CommandFields → List ℕ → Rows → Option Conflict
last_special issuer command id rows = if_met (special_users (step issuer command rows).users == 0) (LastSpecial id)

-- ---- limits: more of a kind than the limit
-- after the command
unfoldable pub users_full : Issuer → CommandFields → Rows → Option Conflict
users_full issuer command rows = over Users most_users (length (step issuer command rows).users)

unfoldable pub groups_full : Issuer → CommandFields → Rows → Option Conflict
groups_full issuer command rows = over Groups most_groups (length (step issuer command rows).groups)

unfoldable pub connections_full : Issuer → CommandFields → Rows → Option Conflict
connections_full issuer command rows = over AllConnections most_connections_in_all (connections (step issuer command rows).users)

-- of the user whom the command makes, or connects
unfoldable pub user_full : List Connection → Option Conflict
user_full connects = over Connections most_connections (length connects)

-- ---- the conflicts of each command, in the order in which they are tested: by their kinds, and of one kind in the
-- order of the operands in the canonical text
unfoldable pub add_user_conflicts : Issuer → AddUser → Rows → List (Option Conflict)
add_user_conflicts issuer c rows =
    no_owner c.owner rows
    ∷ no_group (group_or_current issuer c.dfltgrp) rows
    ∷ no_class c.clauth rows
    ∷ name_taken c.user rows
    ∷ unknown_level c.seclevel rows
    ∷ unknown_category c.addcategory rows
    ∷ unknown_label c.seclabel rows
    ∷ users_full issuer (fields.AddUser c) rows
    ∷ user_full (new_user issuer c rows).connects
    ∷ connections_full issuer (fields.AddUser c) rows
    ∷ []

unfoldable pub alt_user_conflicts : Issuer → AltUser → Rows → List (Option Conflict)
alt_user_conflicts issuer c rows =
    no_user c.user rows
    ∷ no_owner c.owner rows
    ∷ no_named_group c.dfltgrp rows
    ∷ no_class c.clauth rows
    ∷ no_class c.noclauth rows
    ∷ default_not_connected c.user c.dfltgrp rows
    ∷ last_special issuer (fields.AltUser c) c.user rows
    ∷ unknown_level c.seclevel rows
    ∷ unknown_category c.addcategory rows
    ∷ never_category c.delcategory rows
    ∷ unknown_label c.seclabel rows
    ∷ []

unfoldable pub del_user_conflicts : Issuer → DelUser → Rows → List (Option Conflict)
del_user_conflicts issuer c rows =
    no_user c.user rows
    ∷ has_profile c.user rows
    ∷ last_special issuer (fields.DelUser c) c.user rows
    ∷ []

unfoldable pub add_group_conflicts : Issuer → AddGroup → Rows → List (Option Conflict)
add_group_conflicts issuer c rows =
    no_owner c.owner rows
    ∷ no_group (group_or_current issuer c.supgroup) rows
    ∷ name_taken c.group rows
    ∷ owner_not_superior c.supgroup c.owner (Some (new_group issuer c)) rows
    ∷ groups_full issuer (fields.AddGroup c) rows
    ∷ []

unfoldable pub alt_group_conflicts : AltGroup → Rows → List (Option Conflict)
alt_group_conflicts c rows =
    no_owner c.owner rows
    ∷ no_group c.group rows
    ∷ no_named_group c.supgroup rows
    ∷ if_met (is_root c.group && is_some c.supgroup) Root
    ∷ cycle c.group c.supgroup rows
    ∷ owner_not_superior c.supgroup c.owner (option_map (altered_group c) (group_of c.group rows)) rows
    ∷ []

unfoldable pub del_group_conflicts : DelGroup → Rows → List (Option Conflict)
del_group_conflicts c rows =
    no_group c.group rows
    ∷ if_met (is_root c.group) Root
    ∷ has_subgroup c.group rows
    ∷ has_connected c.group rows
    ∷ has_profile c.group rows
    ∷ []

unfoldable pub connect_conflicts : Issuer → Connect → Rows → List (Option Conflict)
connect_conflicts issuer c rows =
    let group = group_or_current issuer c.group in
    no_user c.user rows
    ∷ no_group group rows
    ∷ user_full (connects_after c group (connects_of c.user rows))
    ∷ connections_full issuer (fields.Connect c) rows
    ∷ []

unfoldable pub remove_conflicts : Issuer → Remove → Rows → List (Option Conflict)
remove_conflicts issuer c rows =
    let group = group_or_current issuer c.group in
    no_user c.user rows
    ∷ no_group group rows
    ∷ not_connected c.user group rows
    ∷ default_group c.user group rows
    ∷ []

abbrev pub conflicts : Issuer → CommandFields → Rows → List (Option Conflict)
conflicts issuer (fields.AddUser c) rows = add_user_conflicts issuer c rows
conflicts issuer (fields.AltUser c) rows = alt_user_conflicts issuer c rows
conflicts issuer (fields.DelUser c) rows = del_user_conflicts issuer c rows
conflicts issuer (fields.AddGroup c) rows = add_group_conflicts issuer c rows
conflicts issuer (fields.AltGroup c) rows = alt_group_conflicts c rows
conflicts issuer (fields.DelGroup c) rows = del_group_conflicts c rows
conflicts issuer (fields.Connect c) rows = connect_conflicts issuer c rows
conflicts issuer (fields.Remove c) rows = remove_conflicts issuer c rows
conflicts issuer (fields.AddSd c) rows = add_sd_conflicts issuer c rows
conflicts issuer (fields.AltSd c) rows = alt_sd_conflicts c rows
conflicts issuer (fields.DelSd c) rows = del_sd_conflicts c rows
conflicts issuer (fields.RDefine c) rows = r_define_conflicts issuer c rows
conflicts issuer (fields.RAlter c) rows = r_alter_conflicts issuer c rows
conflicts issuer (fields.DefineClass c) rows = define_class_conflicts issuer c rows
conflicts issuer (fields.AlterClass c) rows = alter_class_conflicts c rows
conflicts issuer (fields.RDelete c) rows = r_delete_conflicts c rows
conflicts issuer (fields.Permit c) rows = permit_conflicts issuer c rows
conflicts issuer (fields.SetRopts c) rows = set_ropts_conflicts c rows

abbrev pub conflict_of : Issuer → CommandFields → Rows → Option Conflict
conflict_of issuer command rows = first_met (conflicts issuer command rows)

-- What is told before the issuer's authority is judged: the first conflict that is met of those that come before Root.
abbrev pub first_conflict_of : Issuer → CommandFields → Rows → Option Conflict
first_conflict_of issuer command rows = find is_early (met (conflicts issuer command rows))
