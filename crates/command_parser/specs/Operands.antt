-- The operands of each command: every word, with the value that the field of that name gives it.
use Rattle.std.specs.Prelude.{ℕ, List, [], ◌∷◌, map, Bool, true, false, Option, None, Some}
use Rattle.access_levels.specs.declared.authorities.GroupAuthority.{GroupAuthority}
use Rattle.access_levels.specs.declared.levels.Level.{Level}
use Rattle.access_levels.specs.declared.entries.Who.{Who}
use Rattle.access_levels.specs.declared.entries.Condition.{Condition}
use Rattle.generic_names.specs.Spelled.{Spelled}
use Rattle.racf_profiles.specs.declared.profiles.AuditRule.{AuditRule}
use Rattle.racf_profiles.specs.declared.profiles.Member.{Member}
use Rattle.command_values.specs.declared.values.Content.{Content}
use Rattle.command_values.specs.declared.values.Content.TheVariants as contents
use Rattle.command_fields.specs.declared.resets.Reset.{Reset}
use Rattle.command_fields.specs.declared.log_clauses.LogClause.{LogClause}
use Rattle.command_fields.specs.declared.fields.AddUser.{AddUser}
use Rattle.command_fields.specs.declared.fields.AltUser.{AltUser}
use Rattle.command_fields.specs.declared.fields.AddGroup.{AddGroup}
use Rattle.command_fields.specs.declared.fields.AltGroup.{AltGroup}
use Rattle.command_fields.specs.declared.fields.Connect.{Connect}
use Rattle.command_fields.specs.declared.fields.Remove.{Remove}
use Rattle.command_fields.specs.declared.profile_fields.AddSd.{AddSd}
use Rattle.command_fields.specs.declared.profile_fields.AltSd.{AltSd}
use Rattle.command_fields.specs.declared.profile_fields.DelSd.{DelSd}
use Rattle.command_fields.specs.declared.profile_fields.RDefine.{RDefine}
use Rattle.command_fields.specs.declared.profile_fields.RAlter.{RAlter}
use Rattle.command_fields.specs.declared.profile_fields.Permit.{Permit}
use Rattle.command_fields.specs.declared.option_fields.SetRopts.{SetRopts}
use Rattle.command_fields.specs.declared.class_fields.ClassNames.{ClassNames}
use Rattle.command_fields.specs.declared.class_fields.DefineClass.{DefineClass}
use Rattle.command_fields.specs.declared.class_fields.AlterClass.{AlterClass}
use Rattle.command_fields.specs.Classes.{cdt}
use Rattle.command_fields.specs.declared.fields.CommandFields.{CommandFields}
use Rattle.command_fields.specs.declared.fields.CommandFields.TheVariants as command
use Rattle.command_values.specs.declared.operand_words.Word.{Word}
use Rattle.command_values.specs.declared.operand_words.Word.TheVariants as words
use Rattle.command_grammar.specs.declared.table.Verb.{Verb}
use Rattle.command_grammar.specs.declared.table.Verb.TheVariants as verbs
use Rattle.command_grammar.specs.Reading.{Slots}

-- The value that a field gives its operand: of one that takes no value whether it stands, and none of a list without an
-- element.
abbrev pub flag_value : Bool → Option Content
flag_value true = Some contents.Flag
flag_value false = None

abbrev pub id_value : Option (List ℕ) → Option Content
id_value None = None
id_value (Some w) = Some (contents.Id w)

abbrev pub authority_value : Option GroupAuthority → Option Content
authority_value None = None
authority_value (Some a) = Some (contents.Authority a)

abbrev pub name_value : Option (List ℕ) → Option Content
name_value None = None
name_value (Some t) = Some (contents.Name t)

abbrev pub ids_value : List (List ℕ) → Option Content
ids_value [] = None
ids_value (w ∷ ws) = Some (contents.Ids (w ∷ ws))

abbrev pub level_value : Option Level → Option Content
level_value None = None
level_value (Some level) = Some (contents.Level level)

abbrev pub audit_value : Option AuditRule → Option Content
audit_value None = None
audit_value (Some rule) = Some (contents.Audit rule)

abbrev pub reset_value : Option Reset → Option Content
reset_value None = None
reset_value (Some reset) = Some (contents.Reset reset)

abbrev pub whos_value : List Who → Option Content
whos_value [] = None
whos_value (who ∷ whos) = Some (contents.Whos (who ∷ whos))

abbrev pub when_value : Option Condition → Option Content
when_value None = None
when_value (Some condition) = Some (contents.When condition)

abbrev pub members_value : List Member → Option Content
members_value [] = None
members_value (member ∷ members) = Some (contents.Members (member ∷ members))

abbrev pub member_names_value : List Spelled → Option Content
member_names_value [] = None
member_names_value (name ∷ names) = Some (contents.MemberNames (name ∷ names))

-- of PROTECTALL and MLS whether they stand
abbrev pub failures_value : Bool → Option Content
failures_value true = Some contents.Failures
failures_value false = None

abbrev pub log_clauses_value : List LogClause → Option Content
log_clauses_value [] = None
log_clauses_value (clause ∷ clauses) = Some (contents.LogOptions (clause ∷ clauses))

abbrev pub length_value : Option ℕ → Option Content
length_value None = None
length_value (Some length) = Some (contents.Length length)

abbrev pub truth_value : Option Bool → Option Content
truth_value None = None
truth_value (Some truth) = Some (contents.Truth truth)

abbrev pub class_names_value : Option ClassNames → Option Content
class_names_value None = None
class_names_value (Some names) = Some (contents.ClassNames names)

-- an operand's word and its value, if the operand was given
abbrev pub Given : Type 0
Given = Word × Option Content

abbrev pub given : Word → Option Content → Given
given w value = (w, value)

abbrev pub values_of : List Given → Slots
values_of operands = map (λ (g : Given). g.1) operands

abbrev pub words_of : List Given → List Word
words_of operands = map (λ (g : Given). g.0) operands

-- ADDUSER
abbrev pub operands_of_add_user : AddUser → List Given
operands_of_add_user a =
    given words.Name (name_value a.name) ∷ given words.Dfltgrp (id_value a.dfltgrp)
    ∷ given words.Owner (id_value a.owner) ∷ given words.Authority (authority_value a.authority)
    ∷ given words.Special (flag_value a.special) ∷ given words.Nospecial (flag_value a.nospecial)
    ∷ given words.Operations (flag_value a.operations)
    ∷ given words.Nooperations (flag_value a.nooperations) ∷ given words.Auditor (flag_value a.auditor)
    ∷ given words.Noauditor (flag_value a.noauditor) ∷ given words.Restricted (flag_value a.restricted)
    ∷ given words.Norestricted (flag_value a.norestricted) ∷ given words.Clauth (ids_value a.clauth)
    ∷ given words.Seclevel (id_value a.seclevel) ∷ given words.Addcategory (ids_value a.addcategory)
    ∷ given words.Seclabel (id_value a.seclabel) ∷ []

-- ALTUSER
abbrev pub operands_of_alt_user : AltUser → List Given
operands_of_alt_user a =
    given words.Name (name_value a.name) ∷ given words.Dfltgrp (id_value a.dfltgrp)
    ∷ given words.Owner (id_value a.owner) ∷ given words.Special (flag_value a.special)
    ∷ given words.Nospecial (flag_value a.nospecial) ∷ given words.Operations (flag_value a.operations)
    ∷ given words.Nooperations (flag_value a.nooperations) ∷ given words.Auditor (flag_value a.auditor)
    ∷ given words.Noauditor (flag_value a.noauditor) ∷ given words.Restricted (flag_value a.restricted)
    ∷ given words.Norestricted (flag_value a.norestricted) ∷ given words.Uaudit (flag_value a.uaudit)
    ∷ given words.Nouaudit (flag_value a.nouaudit) ∷ given words.Revoke (flag_value a.revoke)
    ∷ given words.Resume (flag_value a.resume) ∷ given words.Clauth (ids_value a.clauth)
    ∷ given words.Noclauth (ids_value a.noclauth) ∷ given words.Seclevel (id_value a.seclevel)
    ∷ given words.Noseclevel (flag_value a.noseclevel)
    ∷ given words.Addcategory (ids_value a.addcategory)
    ∷ given words.Delcategory (ids_value a.delcategory) ∷ given words.Seclabel (id_value a.seclabel)
    ∷ given words.Noseclabel (flag_value a.noseclabel) ∷ []

-- ADDGROUP
abbrev pub operands_of_add_group : AddGroup → List Given
operands_of_add_group a =
    given words.Supgroup (id_value a.supgroup) ∷ given words.Owner (id_value a.owner) ∷ []

-- ALTGROUP
abbrev pub operands_of_alt_group : AltGroup → List Given
operands_of_alt_group a =
    given words.Supgroup (id_value a.supgroup) ∷ given words.Owner (id_value a.owner) ∷ []

-- CONNECT
abbrev pub operands_of_connect : Connect → List Given
operands_of_connect a =
    given words.Group (id_value a.group) ∷ given words.Authority (authority_value a.authority)
    ∷ given words.Special (flag_value a.special) ∷ given words.Nospecial (flag_value a.nospecial)
    ∷ given words.Operations (flag_value a.operations)
    ∷ given words.Nooperations (flag_value a.nooperations) ∷ given words.Auditor (flag_value a.auditor)
    ∷ given words.Noauditor (flag_value a.noauditor) ∷ given words.Revoke (flag_value a.revoke)
    ∷ given words.Resume (flag_value a.resume) ∷ []

-- REMOVE
abbrev pub operands_of_remove : Remove → List Given
operands_of_remove a =
    given words.Group (id_value a.group) ∷ []

-- ADDSD
abbrev pub operands_of_add_sd : AddSd → List Given
operands_of_add_sd a =
    given words.Owner (id_value a.owner) ∷ given words.Uacc (level_value a.uacc)
    ∷ given words.Warning (flag_value a.warning) ∷ given words.Nowarning (flag_value a.nowarning)
    ∷ given words.Audit (audit_value a.audit) ∷ given words.Seclevel (id_value a.seclevel)
    ∷ given words.Addcategory (ids_value a.addcategory) ∷ given words.Seclabel (id_value a.seclabel)
    ∷ given words.Generic None ∷ []

-- ALTDSD
abbrev pub operands_of_alt_sd : AltSd → List Given
operands_of_alt_sd a =
    given words.Owner (id_value a.owner) ∷ given words.Uacc (level_value a.uacc)
    ∷ given words.Warning (flag_value a.warning) ∷ given words.Nowarning (flag_value a.nowarning)
    ∷ given words.Audit (audit_value a.audit) ∷ given words.Globalaudit (audit_value a.globalaudit)
    ∷ given words.Seclevel (id_value a.seclevel) ∷ given words.Noseclevel (flag_value a.noseclevel)
    ∷ given words.Addcategory (ids_value a.addcategory)
    ∷ given words.Delcategory (ids_value a.delcategory) ∷ given words.Seclabel (id_value a.seclabel)
    ∷ given words.Noseclabel (flag_value a.noseclabel) ∷ given words.Generic None ∷ []

-- DELDSD. GENERIC leaves nothing in a command.
abbrev pub operands_of_del_sd : DelSd → List Given
operands_of_del_sd a =
    given words.Generic None ∷ []

-- RDEFINE
abbrev pub operands_of_r_define : RDefine → List Given
operands_of_r_define a =
    given words.Owner (id_value a.owner) ∷ given words.Uacc (level_value a.uacc)
    ∷ given words.Warning (flag_value a.warning) ∷ given words.Nowarning (flag_value a.nowarning)
    ∷ given words.Audit (audit_value a.audit) ∷ given words.Seclevel (id_value a.seclevel)
    ∷ given words.Addcategory (ids_value a.addcategory) ∷ given words.Seclabel (id_value a.seclabel)
    ∷ given words.Addmem (members_value a.addmem) ∷ []

-- RDEFINE in class CDT
abbrev pub operands_of_define_class : DefineClass → List Given
operands_of_define_class a =
    given words.Owner (id_value a.owner) ∷ given words.Maxlength (length_value a.maxlength)
    ∷ given words.Operations (truth_value a.operations) ∷ given words.Names (class_names_value a.names) ∷ []

-- RALTER in class CDT
abbrev pub operands_of_alter_class : AlterClass → List Given
operands_of_alter_class a =
    given words.Owner (id_value a.owner) ∷ []

-- RALTER
abbrev pub operands_of_r_alter : RAlter → List Given
operands_of_r_alter a =
    given words.Owner (id_value a.owner) ∷ given words.Uacc (level_value a.uacc)
    ∷ given words.Warning (flag_value a.warning) ∷ given words.Nowarning (flag_value a.nowarning)
    ∷ given words.Audit (audit_value a.audit) ∷ given words.Globalaudit (audit_value a.globalaudit)
    ∷ given words.Seclevel (id_value a.seclevel) ∷ given words.Noseclevel (flag_value a.noseclevel)
    ∷ given words.Addcategory (ids_value a.addcategory)
    ∷ given words.Delcategory (ids_value a.delcategory) ∷ given words.Seclabel (id_value a.seclabel)
    ∷ given words.Noseclabel (flag_value a.noseclabel) ∷ given words.Addmem (members_value a.addmem)
    ∷ given words.Delmem (member_names_value a.delmem) ∷ []

-- PERMIT, which always names its class
abbrev pub operands_of_permit : Permit → List Given
operands_of_permit a =
    given words.Class (id_value (Some a.class)) ∷ given words.Reset (reset_value a.reset)
    ∷ given words.Id (whos_value a.id) ∷ given words.Access (level_value a.access)
    ∷ given words.Delete (flag_value a.delete) ∷ given words.When (when_value a.when)
    ∷ given words.Generic None ∷ []

-- SETROPTS
abbrev pub operands_of_set_ropts : SetRopts → List Given
operands_of_set_ropts a =
    given words.Classact (ids_value a.classact) ∷ given words.Noclassact (ids_value a.noclassact)
    ∷ given words.Grplist (flag_value a.grplist) ∷ given words.Nogrplist (flag_value a.nogrplist)
    ∷ given words.Protectall (failures_value a.protectall)
    ∷ given words.Noprotectall (flag_value a.noprotectall) ∷ given words.Mls (failures_value a.mls)
    ∷ given words.Nomls (flag_value a.nomls) ∷ given words.Raclist (ids_value a.raclist)
    ∷ given words.Noraclist (ids_value a.noraclist) ∷ given words.Global (ids_value a.global)
    ∷ given words.Noglobal (ids_value a.noglobal) ∷ given words.Generic (ids_value a.generic)
    ∷ given words.Refresh (flag_value a.refresh)
    ∷ given words.Logoptions (log_clauses_value a.logoptions) ∷ []

-- A command's verb, its positional words, and its operands.
abbrev pub verb_of : CommandFields → Verb
verb_of (command.AddUser a) = verbs.AddUser
verb_of (command.AltUser a) = verbs.AltUser
verb_of (command.DelUser a) = verbs.DelUser
verb_of (command.AddGroup a) = verbs.AddGroup
verb_of (command.AltGroup a) = verbs.AltGroup
verb_of (command.DelGroup a) = verbs.DelGroup
verb_of (command.Connect a) = verbs.Connect
verb_of (command.Remove a) = verbs.Remove
verb_of (command.AddSd a) = verbs.AddSd
verb_of (command.AltSd a) = verbs.AltSd
verb_of (command.DelSd a) = verbs.DelSd
verb_of (command.RDefine a) = verbs.RDefine
verb_of (command.RAlter a) = verbs.RAlter
verb_of (command.DefineClass a) = verbs.DefineClass
verb_of (command.AlterClass a) = verbs.AlterClass
verb_of (command.RDelete a) = verbs.RDelete
verb_of (command.Permit a) = verbs.Permit
verb_of (command.SetRopts a) = verbs.SetRopts

abbrev pub names_of : CommandFields → List Content
names_of (command.AddUser a) = contents.Id a.user ∷ []
names_of (command.AltUser a) = contents.Id a.user ∷ []
names_of (command.DelUser a) = contents.Id a.user ∷ []
names_of (command.AddGroup a) = contents.Id a.group ∷ []
names_of (command.AltGroup a) = contents.Id a.group ∷ []
names_of (command.DelGroup a) = contents.Id a.group ∷ []
names_of (command.Connect a) = contents.Id a.user ∷ []
names_of (command.Remove a) = contents.Id a.user ∷ []
names_of (command.AddSd a) = contents.Profile a.profile ∷ []
names_of (command.AltSd a) = contents.Profile a.profile ∷ []
names_of (command.DelSd a) = contents.Profile a.profile ∷ []
names_of (command.RDefine a) = contents.Id a.class ∷ contents.Profile a.profile ∷ []
names_of (command.RAlter a) = contents.Id a.class ∷ contents.Profile a.profile ∷ []
names_of (command.DefineClass a) = contents.Id cdt ∷ contents.Profile a.profile ∷ []
names_of (command.AlterClass a) = contents.Id cdt ∷ contents.Profile a.profile ∷ []
names_of (command.RDelete a) = contents.Id a.class ∷ contents.Profile a.profile ∷ []
names_of (command.Permit a) = contents.Profile a.profile ∷ []
names_of (command.SetRopts a) = []

abbrev pub operands_of_command : CommandFields → List Given
operands_of_command (command.AddUser a) = operands_of_add_user a
operands_of_command (command.AltUser a) = operands_of_alt_user a
operands_of_command (command.DelUser a) = []
operands_of_command (command.AddGroup a) = operands_of_add_group a
operands_of_command (command.AltGroup a) = operands_of_alt_group a
operands_of_command (command.DelGroup a) = []
operands_of_command (command.Connect a) = operands_of_connect a
operands_of_command (command.Remove a) = operands_of_remove a
operands_of_command (command.AddSd a) = operands_of_add_sd a
operands_of_command (command.AltSd a) = operands_of_alt_sd a
operands_of_command (command.DelSd a) = operands_of_del_sd a
operands_of_command (command.RDefine a) = operands_of_r_define a
operands_of_command (command.RAlter a) = operands_of_r_alter a
operands_of_command (command.DefineClass a) = operands_of_define_class a
operands_of_command (command.AlterClass a) = operands_of_alter_class a
operands_of_command (command.RDelete a) = []
operands_of_command (command.Permit a) = operands_of_permit a
operands_of_command (command.SetRopts a) = operands_of_set_ropts a

-- the values alone, of the commands whose rules ask whether any stands
abbrev pub slots_of_alt_user : AltUser → Slots
slots_of_alt_user a = values_of (operands_of_alt_user a)

abbrev pub slots_of_alt_sd : AltSd → Slots
slots_of_alt_sd a = values_of (operands_of_alt_sd a)

abbrev pub slots_of_r_alter : RAlter → Slots
slots_of_r_alter a = values_of (operands_of_r_alter a)

abbrev pub slots_of_set_ropts : SetRopts → Slots
slots_of_set_ropts a = values_of (operands_of_set_ropts a)
