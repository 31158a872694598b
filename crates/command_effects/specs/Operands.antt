-- The step that the commands on profiles have in common.
use Rattle.std.specs.Prelude.{ℕ, false, List, [], None, unwrap_or}
use Rattle.access_levels.specs.declared.levels.Level.TheVariants.{NoAccess}
use Rattle.generic_names.specs.Spelled.{Spelled}
use Rattle.racf_profiles.specs.declared.profiles.Profile.{Profile}
use Rattle.racf_profiles.specs.declared.rows.Rows.{Rows}
use Rattle.command_effects.specs.declared.made.operands.Operands.{Operands}
use Rattle.command_rules.specs.UserEffects.{switched}
use Rattle.command_rules.specs.ProfileEffects.{failures_from_read, no_audit, level_given, categories_given, label_given}

-- A profile with what the operands name, and as it was in all else: of a new one the first profile, of an altered one
-- what stands.
abbrev pub with_operands : Operands → Rows → Profile → Profile
with_operands c rows old = record old {
  owner = unwrap_or c.owner old.owner;
  uacc = unwrap_or c.uacc old.uacc;
  warning = switched c.warning c.nowarning old.warning;
  level = level_given rows c.seclevel c.noseclevel old.level;
  categories = categories_given rows c.addcategory.now c.delcategory.now old.categories;
  label = label_given c.seclabel c.noseclabel old.label;
  audit = unwrap_or c.audit old.audit;
  global_audit = unwrap_or c.globalaudit old.global_audit;
}

-- What a new profile is before its operands change it: no entry and no member, the universal access NONE, and
-- failures logged from READ on.
abbrev pub first_profile : Spelled → List ℕ → Profile
first_profile name owner = record {
  name = name;
  owner = owner;
  uacc = NoAccess;
  warning = false;
  standard = [];
  conditional = [];
  level = 0;
  categories = 0;
  label = None;
  audit = failures_from_read;
  global_audit = no_audit;
  members = [];
}
