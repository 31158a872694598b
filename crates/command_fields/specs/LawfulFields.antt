-- What the grammar keeps of each command's fields, where a text spells it.
use Rattle.std.specs.Prelude.{◌≡◌, ℕ, List, [], ◌∷◌, Bool, true, false, ◌||◌, not, codes, bytes_eq, IfSome, IsTrue, Some, Ok}
use Rattle.access_levels.specs.Spelling.{id_of, group_of}
use Rattle.access_levels.specs.declared.entries.Who.{Who}
use Rattle.access_levels.specs.declared.entries.Who.TheVariants.{Star, Named}
use Rattle.access_levels.specs.declared.entries.Condition.{Condition}
use Rattle.generic_names.specs.declared.kind.NameKind.TheVariants.{DataSet, General}
use Rattle.generic_names.specs.Spelled.{Spelled, is_empty}
use Rattle.racf_profiles.specs.declared.profiles.AuditRule.{AuditRule}
use Rattle.racf_profiles.specs.declared.profiles.Member.{Member}
use Rattle.command_fields.specs.UserNames.{is_name}
use Rattle.command_fields.specs.AuditRules.{is_audit_rule}
use Rattle.command_fields.specs.ProfileNames.{dataset_profile, class_profile, any_profile}
use Rattle.command_fields.specs.MemberForms.{member_form}
use Rattle.command_fields.specs.LawfulMembers.{Each, AreMembers, AreDropped}
use Rattle.command_fields.specs.declared.fields.CommandFields.{CommandFields}
use Rattle.command_fields.specs.declared.fields.CommandFields.TheVariants as command
use Rattle.command_fields.specs.declared.fields.AddUser.{AddUser}
use Rattle.command_fields.specs.declared.fields.AltUser.{AltUser}
use Rattle.command_fields.specs.declared.fields.AddGroup.{AddGroup}
use Rattle.command_fields.specs.declared.fields.AltGroup.{AltGroup}
use Rattle.command_fields.specs.declared.fields.Connect.{Connect}
use Rattle.command_fields.specs.declared.fields.Remove.{Remove}
use Rattle.command_fields.specs.declared.profile_fields.AddSd.{AddSd}
use Rattle.command_fields.specs.declared.profile_fields.AltSd.{AltSd}
use Rattle.command_fields.specs.declared.profile_fields.RDefine.{RDefine}
use Rattle.command_fields.specs.declared.profile_fields.RAlter.{RAlter}
use Rattle.command_fields.specs.declared.profile_fields.RDelete.{RDelete}
use Rattle.command_fields.specs.declared.class_fields.DefineClass.{DefineClass}
use Rattle.command_fields.specs.declared.class_fields.AlterClass.{AlterClass}
use Rattle.command_fields.specs.Classes.{cdt, is_longest}
use Rattle.command_fields.specs.declared.profile_fields.Permit.{Permit}
use Rattle.command_fields.specs.declared.option_fields.SetRopts.{SetRopts}
use Rattle.command_fields.specs.declared.log_clauses.LogClause.{LogClause}

-- a word with an ID's spelling, and one with a group name's
abbrev pub IsId : List ℕ → Type 0
IsId w = id_of w ≡ Ok w

abbrev pub IsGroupName : List ℕ → Type 0
IsGroupName w = group_of w ≡ Ok w

-- a user's name: 1 to 20 bytes from X'20' to X'7E'
abbrev pub IsUserName : List ℕ → Type 0
IsUserName t = is_name t ≡ true

-- a word of CLAUTH and NOCLAUTH: any class but DATASET, or USER
abbrev pub IsClauthWord : List ℕ → Type 0
IsClauthWord w = IsId w × (bytes_eq w (codes "DATASET") ≡ false)

-- the name of a data set profile, whose first qualifier has an ID's spelling
abbrev pub IsDataSetProfile : Spelled → Type 0
IsDataSetProfile n = dataset_profile n.text ≡ Some n

-- the name of a profile of a class in RDEFINE, RALTER and RDELETE, and in PERMIT
abbrev pub IsClassProfile : List ℕ → Spelled → Type 0
IsClassProfile class n = class_profile (Some class) n.text ≡ Some n

abbrev pub IsAnyProfile : List ℕ → Spelled → Type 0
IsAnyProfile class n = any_profile (Some class) n.text ≡ Some n

-- a rule of AUDIT or GLOBALAUDIT, whose levels are READ, UPDATE, CONTROL and ALTER
abbrev pub IsAudit : AuditRule → Type 0
IsAudit rule = is_audit_rule rule ≡ true

-- users and groups, or `*` alone
abbrev pub IsNamedOne : Who → Type 0
IsNamedOne Star = ⊥
IsNamedOne (Named w) = IsId w

abbrev pub AreWhosOfPermit : List Who → Type 0
AreWhosOfPermit [] = Unit {0}
AreWhosOfPermit (Star ∷ []) = Unit {0}
AreWhosOfPermit (Star ∷ who ∷ whos) = ⊥
AreWhosOfPermit (Named w ∷ whos) = IsId w × Each IsNamedOne whos

-- a port of entry, whose name has an ID's spelling
abbrev pub IsPort : Condition → Type 0
IsPort condition = IsId condition.name

-- members of a profile of this class, and names of such members, where any are given
abbrev pub AreMembersOf : List ℕ → Spelled → List Member → Type 0
AreMembersOf class n [] = Unit {0}
AreMembersOf class n (m ∷ ms) = AreMembers (member_form (Some class) (Some n)) (m ∷ ms)

abbrev pub AreMemberNamesOf : List ℕ → Spelled → List Spelled → Type 0
AreMemberNamesOf class n [] = Unit {0}
AreMemberNamesOf class n (x ∷ xs) = AreDropped (member_form (Some class) (Some n)) (x ∷ xs)

-- a word of LOGOPTIONS, with words that have an ID's spelling
abbrev pub IsLogClause : LogClause → Type 0
IsLogClause clause = Each IsId clause.classes

-- ADDUSER
pub record IsLawfulAddUser (a : AddUser) : Type 0 where
  pub user : IsId a.user
  pub name : IfSome a.name IsUserName
  pub dfltgrp : IfSome a.dfltgrp IsGroupName
  pub owner : IfSome a.owner IsId
  pub clauth : Each IsClauthWord a.clauth
  pub seclevel : IfSome a.seclevel IsId
  pub addcategory : Each IsId a.addcategory
  pub seclabel : IfSome a.seclabel IsId

-- ALTUSER
pub record IsLawfulAltUser (a : AltUser) : Type 0 where
  pub user : IsId a.user
  pub name : IfSome a.name IsUserName
  pub dfltgrp : IfSome a.dfltgrp IsGroupName
  pub owner : IfSome a.owner IsId
  pub clauth : Each IsClauthWord a.clauth
  pub noclauth : Each IsClauthWord a.noclauth
  pub seclevel : IfSome a.seclevel IsId
  pub addcategory : Each IsId a.addcategory
  pub delcategory : Each IsId a.delcategory
  pub seclabel : IfSome a.seclabel IsId

-- ADDGROUP
pub record IsLawfulAddGroup (a : AddGroup) : Type 0 where
  pub group : IsGroupName a.group
  pub supgroup : IfSome a.supgroup IsGroupName
  pub owner : IfSome a.owner IsId

-- ALTGROUP
pub record IsLawfulAltGroup (a : AltGroup) : Type 0 where
  pub group : IsGroupName a.group
  pub supgroup : IfSome a.supgroup IsGroupName
  pub owner : IfSome a.owner IsId

-- CONNECT
pub record IsLawfulConnect (a : Connect) : Type 0 where
  pub user : IsId a.user
  pub group : IfSome a.group IsGroupName

-- REMOVE
pub record IsLawfulRemove (a : Remove) : Type 0 where
  pub user : IsId a.user
  pub group : IfSome a.group IsGroupName

-- ADDSD
pub record IsLawfulAddSd (a : AddSd) : Type 0 where
  pub profile : IsDataSetProfile a.profile
  pub kind : a.profile.kind ≡ DataSet
  pub owner : IfSome a.owner IsId
  pub audit : IfSome a.audit IsAudit
  pub seclevel : IfSome a.seclevel IsId
  pub addcategory : Each IsId a.addcategory
  pub seclabel : IfSome a.seclabel IsId

-- ALTDSD
pub record IsLawfulAltSd (a : AltSd) : Type 0 where
  pub profile : IsDataSetProfile a.profile
  pub kind : a.profile.kind ≡ DataSet
  pub owner : IfSome a.owner IsId
  pub audit : IfSome a.audit IsAudit
  pub globalaudit : IfSome a.globalaudit IsAudit
  pub seclevel : IfSome a.seclevel IsId
  pub addcategory : Each IsId a.addcategory
  pub delcategory : Each IsId a.delcategory
  pub seclabel : IfSome a.seclabel IsId

-- RDEFINE in another class than CDT
pub record IsLawfulRDefine (a : RDefine) : Type 0 where
  pub class : IsId a.class
  pub chosen : bytes_eq a.class cdt ≡ false
  pub profile : IsClassProfile a.class a.profile
  pub kind : a.profile.kind ≡ General
  pub owner : IfSome a.owner IsId
  pub audit : IfSome a.audit IsAudit
  pub seclevel : IfSome a.seclevel IsId
  pub addcategory : Each IsId a.addcategory
  pub seclabel : IfSome a.seclabel IsId
  pub addmem : AreMembersOf a.class a.profile a.addmem

-- RDEFINE in class CDT
pub record IsLawfulDefineClass (a : DefineClass) : Type 0 where
  pub profile : IsClassProfile cdt a.profile
  pub kind : a.profile.kind ≡ General
  pub owner : IfSome a.owner IsId
  pub maxlength : IfSome a.maxlength (λ n. is_longest n ≡ true)

-- RALTER in class CDT
pub record IsLawfulAlterClass (a : AlterClass) : Type 0 where
  pub profile : IsClassProfile cdt a.profile
  pub kind : a.profile.kind ≡ General
  pub owner : IfSome a.owner IsId

-- RALTER in another class than CDT
pub record IsLawfulRAlter (a : RAlter) : Type 0 where
  pub class : IsId a.class
  pub chosen : bytes_eq a.class cdt ≡ false
  pub profile : IsClassProfile a.class a.profile
  pub kind : a.profile.kind ≡ General
  pub owner : IfSome a.owner IsId
  pub audit : IfSome a.audit IsAudit
  pub globalaudit : IfSome a.globalaudit IsAudit
  pub seclevel : IfSome a.seclevel IsId
  pub addcategory : Each IsId a.addcategory
  pub delcategory : Each IsId a.delcategory
  pub seclabel : IfSome a.seclabel IsId
  pub addmem : AreMembersOf a.class a.profile a.addmem
  pub delmem : AreMemberNamesOf a.class a.profile a.delmem

-- RDELETE
pub record IsLawfulRDelete (a : RDelete) : Type 0 where
  pub class : IsId a.class
  pub profile : IsClassProfile a.class a.profile
  pub kind : a.profile.kind ≡ General

-- PERMIT
pub record IsLawfulPermit (a : Permit) : Type 0 where
  pub class : IsId a.class
  pub profile : IsAnyProfile a.class a.profile
  pub id : AreWhosOfPermit a.id
  pub when : IfSome a.when IsPort

-- SETROPTS, whose classes need not be in the table; REFRESH stands with RACLIST, GLOBAL or GENERIC
abbrev pub refreshes_some : SetRopts → Bool
refreshes_some a = not a.refresh || not (is_empty a.raclist) || not (is_empty a.global) || not (is_empty a.generic)

pub record IsLawfulSetRopts (a : SetRopts) : Type 0 where
  pub refresh : IsTrue (refreshes_some a)
  pub classact : Each IsId a.classact
  pub noclassact : Each IsId a.noclassact
  pub raclist : Each IsId a.raclist
  pub noraclist : Each IsId a.noraclist
  pub global : Each IsId a.global
  pub noglobal : Each IsId a.noglobal
  pub generic : Each IsId a.generic
  pub logoptions : Each IsLogClause a.logoptions

-- What holds of the fields of a command that a text spells.
abbrev pub AreLawfulFields : CommandFields → Type 0
AreLawfulFields (command.AddUser a) = IsLawfulAddUser a
AreLawfulFields (command.AltUser a) = IsLawfulAltUser a
AreLawfulFields (command.DelUser a) = IsId a.user
AreLawfulFields (command.AddGroup a) = IsLawfulAddGroup a
AreLawfulFields (command.AltGroup a) = IsLawfulAltGroup a
AreLawfulFields (command.DelGroup a) = IsGroupName a.group
AreLawfulFields (command.Connect a) = IsLawfulConnect a
AreLawfulFields (command.Remove a) = IsLawfulRemove a
AreLawfulFields (command.AddSd a) = IsLawfulAddSd a
AreLawfulFields (command.AltSd a) = IsLawfulAltSd a
AreLawfulFields (command.DelSd a) = IsDataSetProfile a.profile
AreLawfulFields (command.RDefine a) = IsLawfulRDefine a
AreLawfulFields (command.DefineClass a) = IsLawfulDefineClass a
AreLawfulFields (command.RAlter a) = IsLawfulRAlter a
AreLawfulFields (command.AlterClass a) = IsLawfulAlterClass a
AreLawfulFields (command.RDelete a) = IsLawfulRDelete a
AreLawfulFields (command.Permit a) = IsLawfulPermit a
AreLawfulFields (command.SetRopts a) = IsLawfulSetRopts a
