-- Which operands of a command stand, where its requirements depend on them. By [NO]X the table of commands means X and
-- NOX.
use Rattle.std.specs.Prelude.{Bool, false, ◌&&◌, ◌||◌, not, List, [], Option, None, is_some}
use Rattle.std.specs.List.{list_any}
use Rattle.generic_names.specs.Spelled.{is_empty}
use Rattle.command_fields.specs.declared.fields.AddUser.{AddUser}
use Rattle.command_fields.specs.declared.fields.AltUser.{AltUser}
use Rattle.command_fields.specs.declared.fields.Connect.{Connect}
use Rattle.command_fields.specs.declared.profile_fields.AltSd.{AltSd}
use Rattle.command_fields.specs.declared.profile_fields.RAlter.{RAlter}
use Rattle.command_fields.specs.declared.option_fields.SetRopts.{SetRopts}
use Rattle.command_parser.specs.Operands.{slots_of_alt_user}
use Rattle.command_parser.specs.Operands.{slots_of_alt_sd, slots_of_r_alter, slots_of_set_ropts}

-- One of the operands stands.
abbrev pub some_stands : {X : Type 0} → List (Option X) → Bool
some_stands slots = list_any is_some slots

-- ADDUSER: SPECIAL, OPERATIONS, AUDITOR or CLAUTH stands.
abbrev pub gives_attribute : AddUser → Bool
gives_attribute c = c.special || c.operations || c.auditor || not (is_empty c.clauth)

-- ALTUSER: [NO]SPECIAL, [NO]OPERATIONS, [NO]AUDITOR, CLAUTH or NOCLAUTH stands.
abbrev pub alters_attribute : AltUser → Bool
alters_attribute c = c.special || c.nospecial || c.operations || c.nooperations || c.auditor || c.noauditor || not (is_empty c.clauth) || not (is_empty c.noclauth)

-- ALTUSER: [NO]UAUDIT stands, and whether it is the only operand.
abbrev pub alters_uaudit : AltUser → Bool
alters_uaudit c = c.uaudit || c.nouaudit

abbrev pub alters_uaudit_alone : AltUser → Bool
alters_uaudit_alone c = alters_uaudit c && not (some_stands (slots_of_alt_user (record c { uaudit = false; nouaudit = false })))

-- CONNECT: [NO]SPECIAL, [NO]OPERATIONS or [NO]AUDITOR stands.
abbrev pub alters_group_attribute : Connect → Bool
alters_group_attribute c = c.special || c.nospecial || c.operations || c.nooperations || c.auditor || c.noauditor

-- ALTDSD and RALTER: GLOBALAUDIT is the only operand.
abbrev pub alt_sd_audits_alone : AltSd → Bool
alt_sd_audits_alone c = is_some c.globalaudit && not (some_stands (slots_of_alt_sd (record c { globalaudit = None })))

abbrev pub r_alter_audits_alone : RAlter → Bool
r_alter_audits_alone c = is_some c.globalaudit && not (some_stands (slots_of_r_alter (record c { globalaudit = None })))

-- SETROPTS: LOGOPTIONS is the only operand.
abbrev pub logs_alone : SetRopts → Bool
logs_alone c = not (is_empty c.logoptions) && not (some_stands (slots_of_set_ropts (record c { logoptions = [] })))
