-- What the commands on profiles make.
use Rattle.std.specs.Prelude.{ℕ, Bool, true, false, List, [], ◌∷◌, ◌++◌, map, Option, None, Some, fold, unwrap_or, option_and_then, codes, bytes_eq, if◌then◌else◌}
use Rattle.std.specs.List.{list_any}
use Rattle.std.specs.Result.{result_ok}
use Rattle.std.specs.Option.{option_map_or, option_or}
use Rattle.access_levels.specs.Spelling.{id_of}
use Rattle.access_levels.specs.declared.levels.Level.TheVariants.{NoAccess, Read}
use Rattle.generic_names.specs.Spelled.{Spelled}
use Rattle.racf_profiles.specs.declared.profiles.Profile.{Profile}
use Rattle.racf_profiles.specs.declared.profiles.AuditRule.{AuditRule}
use Rattle.racf_profiles.specs.declared.profiles.ClassTraits.{ClassTraits}
use Rattle.racf_profiles.specs.declared.profiles.Member.TheVariants.{Traits}
use Rattle.racf_profiles.specs.declared.users.User.{User}
use Rattle.racf_profiles.specs.DynamicClasses.{cdt}
use Rattle.racf_profiles.specs.declared.rows.Rows.{Rows}
use Rattle.racf_profiles.specs.Lookup.{profile_of}
use Rattle.racf_profiles.specs.Edits.{at_class, with_profile, without_profile, added_class, without_class}
use Rattle.command_fields.specs.declared.issuer.Issuer.{Issuer}
use Rattle.command_fields.specs.declared.profile_fields.AddSd.{AddSd}
use Rattle.command_fields.specs.declared.profile_fields.AltSd.{AltSd}
use Rattle.command_fields.specs.declared.profile_fields.DelSd.{DelSd}
use Rattle.command_fields.specs.declared.profile_fields.RDefine.{RDefine}
use Rattle.command_fields.specs.declared.profile_fields.RAlter.{RAlter}
use Rattle.command_fields.specs.declared.profile_fields.RDelete.{RDelete}
use Rattle.command_fields.specs.declared.class_fields.DefineClass.{DefineClass}
use Rattle.command_fields.specs.declared.class_fields.AlterClass.{AlterClass}
use Rattle.command_fields.specs.declared.class_fields.ClassNames.{ClassNames}
use Rattle.command_fields.specs.declared.class_fields.ClassNames.TheVariants as class_names
use Rattle.command_rules.specs.UserEffects.{switched, owner_or_issuer, without_classes}
use Rattle.command_rules.specs.Security.{level_number, with_category, without_category}
use Rattle.command_rules.specs.Members.{members_after, options_after}

-- The class of the data set profiles.
abbrev pub dataset : List ℕ
dataset = codes "DATASET"

-- A new profile logs failures from READ on, and its global auditing logs nothing.
abbrev pub failures_from_read : AuditRule
failures_from_read = record { success = None; failures = Some Read }

abbrev pub no_audit : AuditRule
no_audit = record { success = None; failures = None }

-- SECLEVEL gives a level, and NOSECLEVEL behind it takes the level away. DELCATEGORY comes before ADDCATEGORY, and
-- NOSECLABEL behind SECLABEL.
abbrev pub level_given : Rows → Option (List ℕ) → Bool → ℕ → ℕ
level_given rows name off old = if off then 0 else unwrap_or (option_and_then (level_number rows) name) old

abbrev pub categories_given : Rows → List (List ℕ) → List (List ℕ) → ℕ → ℕ
categories_given rows added gone old = fold (with_category rows) (fold (without_category rows) old gone) added

abbrev pub label_given : Option (List ℕ) → Bool → Option (List ℕ) → Option (List ℕ)
label_given name off old = if off then None else option_or name old

-- ADDSD: a profile without entries, with what the operands name. Without OWNER the issuer owns it, and without UACC the
-- universal access is NONE.
abbrev pub new_data_set : Issuer → AddSd → Rows → Profile
new_data_set issuer c rows = record {
  name = c.profile;
  owner = owner_or_issuer issuer c.owner;
  uacc = unwrap_or c.uacc NoAccess;
  warning = switched c.warning c.nowarning false;
  standard = [];
  conditional = [];
  level = level_given rows c.seclevel false 0;
  categories = categories_given rows c.addcategory [] 0;
  label = c.seclabel;
  audit = unwrap_or c.audit failures_from_read;
  global_audit = no_audit;
  members = [];
}

-- ALTDSD changes what its operands name. AUDIT and GLOBALAUDIT replace both halves of the rule.
abbrev pub altered_data_set : AltSd → Rows → Profile → Profile
altered_data_set c rows old = record old {
  owner = unwrap_or c.owner old.owner;
  uacc = unwrap_or c.uacc old.uacc;
  warning = switched c.warning c.nowarning old.warning;
  level = level_given rows c.seclevel c.noseclevel old.level;
  categories = categories_given rows c.addcategory c.delcategory old.categories;
  label = label_given c.seclabel c.noseclabel old.label;
  audit = unwrap_or c.audit old.audit;
  global_audit = unwrap_or c.globalaudit old.global_audit;
}

-- RDEFINE: the same as ADDSD, and the members.
abbrev pub new_resource : Issuer → RDefine → Rows → Profile
new_resource issuer c rows = record {
  name = c.profile;
  owner = owner_or_issuer issuer c.owner;
  uacc = unwrap_or c.uacc NoAccess;
  warning = switched c.warning c.nowarning false;
  standard = [];
  conditional = [];
  level = level_given rows c.seclevel false 0;
  categories = categories_given rows c.addcategory [] 0;
  label = c.seclabel;
  audit = unwrap_or c.audit failures_from_read;
  global_audit = no_audit;
  members = members_after c.addmem [] [];
}

-- RALTER: the same as ALTDSD, and the members.
abbrev pub altered_resource : RAlter → Rows → Profile → Profile
altered_resource c rows old = record old {
  owner = unwrap_or c.owner old.owner;
  uacc = unwrap_or c.uacc old.uacc;
  warning = switched c.warning c.nowarning old.warning;
  level = level_given rows c.seclevel c.noseclevel old.level;
  categories = categories_given rows c.addcategory c.delcategory old.categories;
  label = label_given c.seclabel c.noseclabel old.label;
  audit = unwrap_or c.audit old.audit;
  global_audit = unwrap_or c.globalaudit old.global_audit;
  members = members_after c.addmem c.delmem old.members;
}

-- ---- the classes that class CDT defines
-- The class that a name in CDT stands for. One whose name isn't spelled as an ID is never given.
abbrev pub named_class : Spelled → Option (List ℕ)
named_class name = result_ok (id_of name.text)

-- RDEFINE in CDT: without its operands OPERATIONS doesn't count, and names are general ones of at most 246 bytes.
abbrev pub are_ids : Option ClassNames → Bool
are_ids (Some class_names.Id) = true
are_ids _ = false

abbrev pub traits_given : DefineClass → ClassTraits
traits_given c = record { operations = unwrap_or c.operations false; ids = are_ids c.names; longest = unwrap_or c.maxlength 246 }

-- The profile in CDT: its one member is the traits, and the rest is as RDEFINE without operands makes it.
abbrev pub new_class_profile : Issuer → DefineClass → Profile
new_class_profile issuer c = record {
  name = c.profile;
  owner = owner_or_issuer issuer c.owner;
  uacc = NoAccess;
  warning = false;
  standard = [];
  conditional = [];
  level = 0;
  categories = 0;
  label = None;
  audit = failures_from_read;
  global_audit = no_audit;
  members = Traits (traits_given c) ∷ [];
}

-- RALTER in CDT changes the owner.
abbrev pub altered_class_profile : AlterClass → Profile → Profile
altered_class_profile c old = record old { owner = unwrap_or c.owner old.owner }

-- The user without a class in his CLAUTH list.
abbrev pub has_clauth : List ℕ → User → Bool
has_clauth class user = list_any (λ other. bytes_eq other class) user.classes

abbrev pub without_clauth : List ℕ → User → User
without_clauth class user = record user { classes = without_classes (class ∷ []) user.classes }

-- The class that RDELETE takes away with its profile: in CDT the one of the profile's name.
abbrev pub deleted_class : RDelete → Option (List ℕ)
deleted_class c = if bytes_eq c.class cdt then named_class c.profile else None

-- The rows with a class more, and without one, in nobody's CLAUTH list.
abbrev pub class_added : Option (List ℕ) → Rows → Rows
class_added None rows = rows
class_added (Some class) rows = record rows { classes = rows.classes ++ added_class class ∷ [] }

abbrev pub class_dropped : Option (List ℕ) → Rows → Rows
class_dropped None rows = rows
class_dropped (Some class) rows = record rows { users = map (without_clauth class) rows.users; classes = without_class class rows.classes }

-- The rows with a profile in a class, in place of the one of its name or else at its place in the order; and without
-- one.
abbrev pub profile_put : List ℕ → Profile → Rows → Rows
profile_put class profile rows = record rows { classes = at_class class (with_profile profile) rows.classes }

abbrev pub profile_dropped : List ℕ → Spelled → Rows → Rows
profile_dropped class name rows = record rows { classes = at_class class (without_profile name) rows.classes }

-- The rows with the profile of a name changed; where there is none, nothing changes.
abbrev pub profile_changed : List ℕ → Spelled → (Profile → Profile) → Rows → Rows
profile_changed class name change rows = option_map_or (λ old. profile_put class (change old) rows) (profile_of class name rows) rows

-- The rows after each command.
abbrev pub after_add_sd : Issuer → AddSd → Rows → Rows
after_add_sd issuer c rows = profile_put dataset (new_data_set issuer c rows) rows

abbrev pub after_alt_sd : AltSd → Rows → Rows
after_alt_sd c rows = profile_changed dataset c.profile (altered_data_set c rows) rows

abbrev pub after_del_sd : DelSd → Rows → Rows
after_del_sd c rows = profile_dropped dataset c.profile rows

abbrev pub after_r_define : Issuer → RDefine → Rows → Rows
after_r_define issuer c rows = record (profile_put c.class (new_resource issuer c rows) rows) { options = options_after c.addmem rows.options }

abbrev pub after_r_alter : RAlter → Rows → Rows
after_r_alter c rows = record (profile_changed c.class c.profile (altered_resource c rows) rows) { options = options_after c.addmem rows.options }

abbrev pub after_define_class : Issuer → DefineClass → Rows → Rows
after_define_class issuer c rows = class_added (named_class c.profile) (profile_put cdt (new_class_profile issuer c) rows)

abbrev pub after_alter_class : AlterClass → Rows → Rows
after_alter_class c rows = profile_changed cdt c.profile (altered_class_profile c) rows

abbrev pub after_r_delete : RDelete → Rows → Rows
after_r_delete c rows = class_dropped (deleted_class c) (profile_dropped c.class c.profile rows)
