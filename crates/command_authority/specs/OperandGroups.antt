-- Words of the functions that ask for a command's operands: operands that stand side by side in the table.
use Rattle.std.specs.Prelude.{ℕ, Bool, ◌||◌, not, List, Option, is_some}
use Rattle.generic_names.specs.Spelled.{is_empty}
use Rattle.access_levels.specs.declared.levels.Level.{Level}
use Rattle.racf_profiles.specs.declared.profiles.AuditRule.{AuditRule}
use Rattle.command_fields.specs.declared.fields.AltUser.{AltUser}
use Rattle.command_fields.specs.declared.option_fields.SetRopts.{SetRopts}

-- ALTUSER: NAME, DFLTGRP and OWNER; the attributes; REVOKE to NOCLAUTH
abbrev pub alters_person : AltUser → Bool
alters_person c = is_some c.name || is_some c.dfltgrp || is_some c.owner

abbrev pub alters_rights : AltUser → Bool
alters_rights c = c.special || c.nospecial || c.operations || c.nooperations || c.auditor || c.noauditor || c.restricted || c.norestricted

abbrev pub alters_state : AltUser → Bool
alters_state c = c.revoke || c.resume || not (is_empty c.clauth) || not (is_empty c.noclauth)

-- the security level, the categories and the label
abbrev pub alters_security : (seclevel : Option (List ℕ)) → (noseclevel : Bool) → (addcategory delcategory : List (List ℕ)) → (seclabel : Option (List ℕ)) → (noseclabel : Bool) → Bool
alters_security seclevel noseclevel addcategory delcategory seclabel noseclabel = is_some seclevel || noseclevel || not (is_empty addcategory) || not (is_empty delcategory) || is_some seclabel || noseclabel

-- of a profile: OWNER to AUDIT
abbrev pub alters_profile : (owner : Option (List ℕ)) → (uacc : Option Level) → (warning nowarning : Bool) → (audit : Option AuditRule) → Bool
alters_profile owner uacc warning nowarning audit = is_some owner || is_some uacc || warning || nowarning || is_some audit

-- SETROPTS: a list of classes; an operand that is no list
abbrev pub sets_classes : SetRopts → Bool
sets_classes c = not (is_empty c.classact) || not (is_empty c.noclassact) || not (is_empty c.raclist) || not (is_empty c.noraclist) || not (is_empty c.global) || not (is_empty c.noglobal) || not (is_empty c.generic)

abbrev pub sets_switches : SetRopts → Bool
sets_switches c = c.grplist || c.nogrplist || c.protectall || c.noprotectall || c.mls || c.nomls || c.refresh
