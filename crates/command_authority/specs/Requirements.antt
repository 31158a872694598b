-- What each command requires of its issuer: one requirement or more, in this order.
use Rattle.std.specs.Prelude.{ℕ, Bool, true, not, List, [], ◌∷◌, ◌++◌, map, Option, None, Some, is_some, option_and_then, unwrap_or, codes, bytes_eq, if◌then◌else◌}
use Rattle.access_levels.specs.declared.authorities.GroupAuthority.{GroupAuthority}
use Rattle.generic_names.specs.Spelled.{Spelled, is_empty}
use Rattle.generic_names.specs.Covers.{is_generic}
use Rattle.racf_profiles.specs.declared.groups.Group.{Group}
use Rattle.racf_profiles.specs.declared.rows.Rows.{Rows}
use Rattle.racf_profiles.specs.Lookup.{group_of}
use Rattle.command_fields.specs.declared.issuer.Issuer.{Issuer}
use Rattle.command_fields.specs.Issuers.{group_or_current}
use Rattle.command_fields.specs.declared.fields.AddUser.{AddUser}
use Rattle.command_fields.specs.declared.fields.AltUser.{AltUser}
use Rattle.command_fields.specs.declared.fields.DelUser.{DelUser}
use Rattle.command_fields.specs.declared.fields.AddGroup.{AddGroup}
use Rattle.command_fields.specs.declared.fields.AltGroup.{AltGroup}
use Rattle.command_fields.specs.declared.fields.DelGroup.{DelGroup}
use Rattle.command_fields.specs.declared.fields.Connect.{Connect as ConnectForm}
use Rattle.command_fields.specs.declared.fields.Remove.{Remove}
use Rattle.command_fields.specs.declared.profile_fields.AddSd.{AddSd}
use Rattle.command_fields.specs.declared.profile_fields.AltSd.{AltSd}
use Rattle.command_fields.specs.declared.profile_fields.DelSd.{DelSd}
use Rattle.command_fields.specs.declared.profile_fields.RDefine.{RDefine}
use Rattle.command_fields.specs.declared.profile_fields.RAlter.{RAlter}
use Rattle.command_fields.specs.declared.profile_fields.RDelete.{RDelete}
use Rattle.command_fields.specs.declared.class_fields.AlterClass.{AlterClass}
use Rattle.command_fields.specs.Classes.{cdt}
use Rattle.command_fields.specs.declared.profile_fields.Permit.{Permit}
use Rattle.command_fields.specs.declared.option_fields.SetRopts.{SetRopts}
use Rattle.command_fields.specs.declared.fields.CommandFields.{CommandFields}
use Rattle.command_fields.specs.declared.fields.CommandFields.TheVariants as fields
use Rattle.command_authority.specs.declared.needs.Need.{Need}
use Rattle.command_authority.specs.declared.needs.Need.TheVariants.{Special, Auditor, ClassAuthority, Join, Connect, Create, Authority, Owner, GroupSpecial, OwnData, AlterEntry, UserJoin, UserOwner, UserGroupSpecial}
use Rattle.command_authority.specs.declared.requirement.Target.{Target}
use Rattle.command_authority.specs.declared.requirement.Target.TheVariants as targets
use Rattle.command_authority.specs.declared.requirement.Requirement.{Requirement}
use Rattle.generic_names.specs.Spelled.{first_qualifier}
use Rattle.command_authority.specs.Operands.{gives_attribute, alters_attribute, alters_uaudit, alters_uaudit_alone, alters_group_attribute, alt_sd_audits_alone, r_alter_audits_alone, logs_alone}

-- One of these needs has to hold over the target.
abbrev pub over : Target → List Need → Requirement
over target needs = record { stands = true; target = target; needs = needs }

-- The same where an operand stands.
abbrev pub over_where : Bool → Target → List Need → Requirement
over_where stands target needs = record { stands = stands; target = target; needs = needs }

-- A need that is in the list where the condition holds.
abbrev pub need_where : Bool → Need → List Need
need_where holds need = if holds then need ∷ [] else []

-- ---- users
unfoldable pub add_user_requirements : Issuer → AddUser → List Requirement
add_user_requirements issuer c =
    let group = group_or_current issuer c.dfltgrp in
    over (targets.Group group) (Special ∷ UserJoin group ∷ UserOwner ∷ UserGroupSpecial ∷ [])
    ∷ over_where (gives_attribute c) targets.Nothing (Special ∷ [])
    ∷ []

unfoldable pub alt_user_requirements : AltUser → List Requirement
alt_user_requirements c =
    over_where (not (alters_uaudit_alone c)) (targets.User c.user) (Special ∷ Owner ∷ GroupSpecial ∷ [])
    ∷ over_where (alters_attribute c) targets.Nothing (Special ∷ [])
    ∷ over_where (alters_uaudit c) targets.Nothing (Auditor ∷ [])
    ∷ []

unfoldable pub del_user_requirements : DelUser → List Requirement
del_user_requirements c = over (targets.User c.user) (Special ∷ Owner ∷ GroupSpecial ∷ []) ∷ []

-- ---- groups
-- SPECIAL, JOIN in the superior group, or to own the target or to have group-SPECIAL over it
abbrev pub below : List ℕ → List Need
below superior = Special ∷ Join superior ∷ Owner ∷ GroupSpecial ∷ []

unfoldable pub add_group_requirements : Issuer → AddGroup → List Requirement
add_group_requirements issuer c =
    let superior = group_or_current issuer c.supgroup in
    over (targets.Group superior) (below superior) ∷ []

-- The second is asked over the new superior group, where SUPGROUP stands.
unfoldable pub alt_group_requirements : AltGroup → List Requirement
alt_group_requirements c =
    let superior = unwrap_or c.supgroup c.group in
    over (targets.Group c.group) (Special ∷ Owner ∷ GroupSpecial ∷ [])
    ∷ over_where (is_some c.supgroup) (targets.Group superior) (below superior)
    ∷ []

-- JOIN in the superior group of the stored row: SYS1 has none.
abbrev pub leaving : Option (List ℕ) → List Need
leaving None = Special ∷ Owner ∷ GroupSpecial ∷ []
leaving (Some superior) = below superior

unfoldable pub del_group_requirements : Rows → DelGroup → List Requirement
del_group_requirements rows c = over (targets.Group c.group) (leaving (option_and_then (λ (group : Group). group.superior) (group_of c.group rows))) ∷ []

-- ---- connections
abbrev pub over_members : List ℕ → Requirement
over_members group = over (targets.Group group) (Special ∷ Connect group ∷ Owner ∷ GroupSpecial ∷ [])

-- AUTHORITY(A): without it no authority is asked for.
abbrev pub giving : Option GroupAuthority → List Need
giving None = []
giving (Some wanted) = Special ∷ Owner ∷ GroupSpecial ∷ Authority wanted ∷ []

unfoldable pub connect_requirements : Issuer → ConnectForm → List Requirement
connect_requirements issuer c =
    let group = group_or_current issuer c.group in
    over_members group
    ∷ over_where (is_some c.authority) (targets.Group group) (giving c.authority)
    ∷ over_where (alters_group_attribute c) (targets.Group group) (Special ∷ GroupSpecial ∷ [])
    ∷ []

unfoldable pub remove_requirements : Issuer → Remove → List Requirement
remove_requirements issuer c = over_members (group_or_current issuer c.group) ∷ []

-- ---- profiles
-- ADDSD is asked over the user or the group whose ID is the first qualifier.
abbrev pub over_new_data_set : List ℕ → Requirement
over_new_data_set qualifier = over (targets.DataSets qualifier) (Special ∷ OwnData ∷ Create qualifier ∷ GroupSpecial ∷ [])

unfoldable pub add_sd_requirements : AddSd → List Requirement
add_sd_requirements c = over_new_data_set (first_qualifier c.profile.text) ∷ []

unfoldable pub r_define_requirements : RDefine → List Requirement
r_define_requirements c = over targets.Nothing (Special ∷ ClassAuthority c.class ∷ []) ∷ []

-- RDEFINE in class CDT, as in every class
unfoldable pub define_class_requirements : List Requirement
define_class_requirements = over targets.Nothing (Special ∷ ClassAuthority cdt ∷ []) ∷ []

-- The other commands on profiles: one's own data count in class DATASET, and an entry with ALTER for a discrete
-- profile.
abbrev pub dataset : List ℕ
dataset = codes "DATASET"

abbrev pub profile_needs : List ℕ → Spelled → List Need
profile_needs class name = (Special ∷ Owner ∷ GroupSpecial ∷ []) ++ need_where (bytes_eq class dataset) OwnData ++ need_where (not (is_generic name)) AlterEntry

abbrev pub over_profile : Bool → List ℕ → Spelled → Requirement
over_profile stands class name = over_where stands (targets.Profile class name) (profile_needs class name)

-- GLOBALAUDIT is the auditor's.
abbrev pub auditing : Bool → Requirement
auditing stands = over_where stands targets.Nothing (Auditor ∷ [])

unfoldable pub alt_sd_requirements : AltSd → List Requirement
alt_sd_requirements c = over_profile (not (alt_sd_audits_alone c)) dataset c.profile ∷ auditing (is_some c.globalaudit) ∷ []

unfoldable pub del_sd_requirements : DelSd → List Requirement
del_sd_requirements c = over_profile true dataset c.profile ∷ []

unfoldable pub r_alter_requirements : RAlter → List Requirement
r_alter_requirements c = over_profile (not (r_alter_audits_alone c)) c.class c.profile ∷ auditing (is_some c.globalaudit) ∷ []

unfoldable pub alter_class_requirements : AlterClass → List Requirement
alter_class_requirements c = over_profile true cdt c.profile ∷ []

unfoldable pub r_delete_requirements : RDelete → List Requirement
r_delete_requirements c = over_profile true c.class c.profile ∷ []

unfoldable pub permit_requirements : Permit → List Requirement
permit_requirements c = over_profile true c.class c.profile ∷ []

-- ---- options
-- REFRESH is asked of each class that is named: of RACLIST, then of GLOBAL, then of GENERIC.
abbrev pub refreshing : List ℕ → Requirement
refreshing class = over targets.Nothing (Special ∷ ClassAuthority class ∷ Auditor ∷ [])

abbrev pub refreshed_classes : SetRopts → List (List ℕ)
refreshed_classes c = c.raclist ++ (c.global ++ c.generic)

-- LOGOPTIONS is the auditor's, all other operands are not.
abbrev pub setting : SetRopts → List Requirement
setting c = over_where (not (logs_alone c)) targets.Nothing (Special ∷ []) ∷ auditing (not (is_empty c.logoptions)) ∷ []

unfoldable pub set_ropts_requirements : SetRopts → List Requirement
set_ropts_requirements c = if c.refresh then map refreshing (refreshed_classes c) else setting c

-- ---- all
abbrev pub requirements : Rows → Issuer → CommandFields → List Requirement
requirements rows issuer (fields.AddUser c) = add_user_requirements issuer c
requirements rows issuer (fields.AltUser c) = alt_user_requirements c
requirements rows issuer (fields.DelUser c) = del_user_requirements c
requirements rows issuer (fields.AddGroup c) = add_group_requirements issuer c
requirements rows issuer (fields.AltGroup c) = alt_group_requirements c
requirements rows issuer (fields.DelGroup c) = del_group_requirements rows c
requirements rows issuer (fields.Connect c) = connect_requirements issuer c
requirements rows issuer (fields.Remove c) = remove_requirements issuer c
requirements rows issuer (fields.AddSd c) = add_sd_requirements c
requirements rows issuer (fields.AltSd c) = alt_sd_requirements c
requirements rows issuer (fields.DelSd c) = del_sd_requirements c
requirements rows issuer (fields.RDefine c) = r_define_requirements c
requirements rows issuer (fields.RAlter c) = r_alter_requirements c
requirements rows issuer (fields.DefineClass c) = define_class_requirements
requirements rows issuer (fields.AlterClass c) = alter_class_requirements c
requirements rows issuer (fields.RDelete c) = r_delete_requirements c
requirements rows issuer (fields.Permit c) = permit_requirements c
requirements rows issuer (fields.SetRopts c) = set_ropts_requirements c
