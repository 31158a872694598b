-- Who may give which command. A requirement is met where one of its needs holds; what is lacking is the whole list of
-- the first requirement that isn't met.
use Rattle.std.specs.Prelude.{ℕ, Bool, false, ◌&&◌, ◌||◌, not, List, Option, option_map, codes}
use Rattle.std.specs.List.{find, list_any}
use Rattle.std.specs.Option.{option_map_or}
use Rattle.access_levels.specs.declared.authorities.GroupAuthority.TheVariants.{MayCreate, MayConnect, MayJoin}
use Rattle.racf_profiles.specs.declared.users.User.{User}
use Rattle.racf_profiles.specs.declared.rows.Rows.{Rows}
use Rattle.racf_profiles.specs.Lookup.{user_of}
use Rattle.command_fields.specs.declared.issuer.Issuer.{Issuer}
use Rattle.command_fields.specs.declared.fields.CommandFields.{CommandFields}
use Rattle.command_authority.specs.declared.needs.Need.{Need}
use Rattle.command_authority.specs.declared.needs.Need.TheVariants.{Special, Auditor, ClassAuthority, Join, Connect, Create, Authority, Owner, GroupSpecial, OwnData, AlterEntry, UserJoin, UserOwner, UserGroupSpecial}
use Rattle.command_authority.specs.declared.requirement.Target.{Target}
use Rattle.command_authority.specs.declared.requirement.Requirement.{Requirement}
use Rattle.command_authority.specs.Held.{has_class, has_authority}
use Rattle.command_authority.specs.Targets.{is_owner, has_group_special, is_own_data, has_alter_entry, has_authority_in}
use Rattle.command_authority.specs.Requirements.{requirements, refreshing}

-- Class authority in the word USER.
abbrev pub may_define_users : User → Bool
may_define_users user = has_class user (codes "USER")

-- A need of a requirement over the target holds for the user.
abbrev pub holds : Rows → User → Target → Need → Bool
holds rows user target Special = user.attributes.special
holds rows user target Auditor = user.attributes.auditor
holds rows user target (ClassAuthority class) = has_class user class
holds rows user target (Join group) = has_authority user MayJoin group
holds rows user target (Connect group) = has_authority user MayConnect group
holds rows user target (Create group) = has_authority user MayCreate group
holds rows user target (Authority wanted) = has_authority_in user wanted target
holds rows user target Owner = is_owner rows user target
holds rows user target GroupSpecial = has_group_special rows user target
holds rows user target OwnData = is_own_data user target
holds rows user target AlterEntry = has_alter_entry rows user target
holds rows user target (UserJoin group) = may_define_users user && has_authority user MayJoin group
holds rows user target UserOwner = may_define_users user && is_owner rows user target
holds rows user target UserGroupSpecial = may_define_users user && has_group_special rows user target

-- A requirement that stands is met where one of its needs holds for the issuer. Nothing holds for one who isn't a user.
unfoldable pub is_met : Rows → Issuer → Requirement → Bool
is_met rows issuer requirement = not requirement.stands || option_map_or (λ (user : User). list_any (holds rows user requirement.target) requirement.needs) (user_of issuer.id rows) false

-- The needs of the first requirement that isn't met; none where the issuer may give the command.
abbrev pub first_unmet : Rows → Issuer → List Requirement → Option (List Need)
first_unmet rows issuer list = option_map (λ (requirement : Requirement). requirement.needs) (find (λ requirement. not (is_met rows issuer requirement)) list)

-- A class that the issuer may not refresh.
abbrev pub is_withheld : Rows → Issuer → List ℕ → Bool
is_withheld rows issuer class = not (is_met rows issuer (refreshing class))

unfoldable pub need : Rows → Issuer → CommandFields → Option (List Need)
need rows issuer command = first_unmet rows issuer (requirements rows issuer command)
