-- The table of commands, as RACF's command language has them: how each is called, its positional words, its operands in
-- the order in which they are written, the operands that exclude one another, and those that are needed.
use Rattle.std.specs.Prelude.{ℕ, List, [], ◌∷◌, codes, bytes_eq, if◌then◌else◌, Option, None, Some}
use Rattle.access_levels.specs.declared.levels.Level.TheVariants.{Read}
use Rattle.command_fields.specs.Classes.{cdt}
use Rattle.command_values.specs.declared.operand_words.Word.{Word}
use Rattle.command_values.specs.declared.operand_words.Word.TheVariants as words
use Rattle.command_grammar.specs.declared.table.Verb.{Verb}
use Rattle.command_grammar.specs.declared.table.Verb.TheVariants as verbs
use Rattle.command_values.specs.declared.value_kinds.ValueKind.{ValueKind}
use Rattle.command_values.specs.declared.value_kinds.ValueKind.TheVariants as kinds
use Rattle.command_grammar.specs.declared.table.Position.{Position}
use Rattle.command_grammar.specs.declared.table.Operand.{Operand}
use Rattle.command_values.specs.declared.values.Content.{Content}
use Rattle.command_values.specs.declared.values.Content.TheVariants as contents

-- The commands that a word names, in the order of the table.
abbrev pub commands : List Verb
commands =
    verbs.AddUser ∷ verbs.AltUser ∷ verbs.DelUser ∷ verbs.AddGroup ∷ verbs.AltGroup ∷ verbs.DelGroup ∷ verbs.Connect ∷ verbs.Remove
    ∷ verbs.AddSd ∷ verbs.AltSd ∷ verbs.DelSd ∷ verbs.RDefine ∷ verbs.RAlter ∷ verbs.RDelete ∷ verbs.Permit
    ∷ verbs.SetRopts ∷ []

-- RDEFINE and RALTER in class CDT, whose profiles define classes, are commands of their own: they have the names of RDEFINE and
-- RALTER, and are told from them by the class.
abbrev pub in_class : Verb → Option (List ℕ) → Verb
in_class verbs.RDefine (Some class) = if bytes_eq class cdt then verbs.DefineClass else verbs.RDefine
in_class verbs.RAlter (Some class) = if bytes_eq class cdt then verbs.AlterClass else verbs.RAlter
in_class v class = v

abbrev pub named_as : Verb → Verb
named_as verbs.DefineClass = verbs.RDefine
named_as verbs.AlterClass = verbs.RAlter
named_as v = v

-- An operand of a command, and the value that it has where it isn't given, if there is one.
pub record OperandRow : Type 0 where
  pub operand : Operand
  pub default : Option Content

-- An operand that takes a value of this kind, and one that takes none.
abbrev pub takes : Word → ValueKind → OperandRow
takes w k = record { operand = record { word = w; kind = k }; default = None }

abbrev pub flag : Word → OperandRow
flag w = takes w kinds.Flag

-- an operand that is written with this value where it isn't given
abbrev pub by_default : Word → ValueKind → Content → OperandRow
by_default w k v = record { operand = record { word = w; kind = k }; default = Some v }

-- The positional words of a command: the word that a refusal names each by, and what it is.
abbrev pub is_a : Word → ValueKind → Position
is_a w k = record { word = w; kind = k }

abbrev pub user : List Position
user = is_a words.User kinds.Id ∷ []

abbrev pub group : List Position
group = is_a words.Group kinds.Group ∷ []

abbrev pub data_set_profile : List Position
data_set_profile = is_a words.Profile kinds.DataSetProfile ∷ []

abbrev pub class_and_profile : List Position
class_and_profile = is_a words.Class kinds.Class ∷ is_a words.Profile kinds.ClassProfile ∷ []

-- PERMIT's profile is one of the class that CLASS names
abbrev pub any_profile : List Position
any_profile = is_a words.Profile kinds.AnyProfile ∷ []

-- What a command needs: one of these operands, always (None) or where one stands that asks for it; and the word that a
-- refusal names.
pub record Needed : Type 0 where
  pub asked_by : Option (List Word)
  pub one_of : List Word
  pub missing : Word

-- A command: its full name, its abbreviation, its positional words, its operands, the pairs of them that exclude one
-- another, in the order of their first words and then of their second ones, and what it needs, in the order in which
-- it is judged.
pub record CommandRow : Type 0 where
  pub name : List ℕ
  pub abbreviation : List ℕ
  pub positions : List Position
  pub operands : List OperandRow
  pub excluded : List (Word × Word)
  pub needed : List Needed

-- The table. RESET alone is RESET(ALL), PROTECTALL and MLS alone are theirs with FAILURES, and a word of AUDIT or
-- GLOBALAUDIT without a level has READ; ACCESS has its default where ID stands without DELETE.
abbrev pub row_of : Verb → CommandRow
row_of verbs.AddUser = record {
  name = codes "ADDUSER";
  abbreviation = codes "AU";
  positions = user;
  operands =
      takes words.Name kinds.Name ∷ takes words.Dfltgrp kinds.Group ∷ takes words.Owner kinds.Id
      ∷ takes words.Authority kinds.Authority ∷ flag words.Special ∷ flag words.Nospecial
      ∷ flag words.Operations ∷ flag words.Nooperations ∷ flag words.Auditor ∷ flag words.Noauditor
      ∷ flag words.Restricted ∷ flag words.Norestricted ∷ takes words.Clauth kinds.Classes
      ∷ takes words.Seclevel kinds.Id ∷ takes words.Addcategory kinds.Ids ∷ takes words.Seclabel kinds.Id ∷ [];
  excluded =
      (words.Special, words.Nospecial) ∷ (words.Operations, words.Nooperations)
      ∷ (words.Auditor, words.Noauditor) ∷ (words.Restricted, words.Norestricted) ∷ [];
  needed = [];
}
row_of verbs.AltUser = record {
  name = codes "ALTUSER";
  abbreviation = codes "ALU";
  positions = user;
  operands =
      takes words.Name kinds.Name ∷ takes words.Dfltgrp kinds.Group ∷ takes words.Owner kinds.Id
      ∷ flag words.Special ∷ flag words.Nospecial ∷ flag words.Operations ∷ flag words.Nooperations
      ∷ flag words.Auditor ∷ flag words.Noauditor ∷ flag words.Restricted ∷ flag words.Norestricted
      ∷ flag words.Uaudit ∷ flag words.Nouaudit ∷ flag words.Revoke ∷ flag words.Resume
      ∷ takes words.Clauth kinds.Classes ∷ takes words.Noclauth kinds.Classes ∷ takes words.Seclevel kinds.Id
      ∷ flag words.Noseclevel ∷ takes words.Addcategory kinds.Ids ∷ takes words.Delcategory kinds.Ids
      ∷ takes words.Seclabel kinds.Id ∷ flag words.Noseclabel ∷ [];
  excluded =
      (words.Special, words.Nospecial) ∷ (words.Operations, words.Nooperations)
      ∷ (words.Auditor, words.Noauditor) ∷ (words.Restricted, words.Norestricted)
      ∷ (words.Uaudit, words.Nouaudit) ∷ (words.Revoke, words.Resume) ∷ (words.Seclevel, words.Noseclevel)
      ∷ (words.Seclabel, words.Noseclabel) ∷ [];
  needed = [];
}
row_of verbs.DelUser = record {
  name = codes "DELUSER";
  abbreviation = codes "DU";
  positions = user;
  operands = [];
  excluded = [];
  needed = [];
}
row_of verbs.AddGroup = record {
  name = codes "ADDGROUP";
  abbreviation = codes "AG";
  positions = group;
  operands =
      takes words.Supgroup kinds.Group ∷ takes words.Owner kinds.Id ∷ [];
  excluded = [];
  needed = [];
}
row_of verbs.AltGroup = record {
  name = codes "ALTGROUP";
  abbreviation = codes "ALG";
  positions = group;
  operands =
      takes words.Supgroup kinds.Group ∷ takes words.Owner kinds.Id ∷ [];
  excluded = [];
  needed = [];
}
row_of verbs.DelGroup = record {
  name = codes "DELGROUP";
  abbreviation = codes "DG";
  positions = group;
  operands = [];
  excluded = [];
  needed = [];
}
row_of verbs.Connect = record {
  name = codes "CONNECT";
  abbreviation = codes "CO";
  positions = user;
  operands =
      takes words.Group kinds.Group ∷ takes words.Authority kinds.Authority ∷ flag words.Special
      ∷ flag words.Nospecial ∷ flag words.Operations ∷ flag words.Nooperations ∷ flag words.Auditor
      ∷ flag words.Noauditor ∷ flag words.Revoke ∷ flag words.Resume ∷ [];
  excluded =
      (words.Special, words.Nospecial) ∷ (words.Operations, words.Nooperations)
      ∷ (words.Auditor, words.Noauditor) ∷ (words.Revoke, words.Resume) ∷ [];
  needed = [];
}
row_of verbs.Remove = record {
  name = codes "REMOVE";
  abbreviation = codes "RE";
  positions = user;
  operands =
      takes words.Group kinds.Group ∷ [];
  excluded = [];
  needed = [];
}
row_of verbs.AddSd = record {
  name = codes "ADDSD";
  abbreviation = codes "AD";
  positions = data_set_profile;
  operands =
      takes words.Owner kinds.Id ∷ takes words.Uacc kinds.Level ∷ flag words.Warning ∷ flag words.Nowarning
      ∷ takes words.Audit kinds.Audit ∷ takes words.Seclevel kinds.Id ∷ takes words.Addcategory kinds.Ids
      ∷ takes words.Seclabel kinds.Id ∷ takes words.Generic kinds.Generic ∷ [];
  excluded =
      (words.Warning, words.Nowarning) ∷ [];
  needed = [];
}
row_of verbs.AltSd = record {
  name = codes "ALTDSD";
  abbreviation = codes "ALD";
  positions = data_set_profile;
  operands =
      takes words.Owner kinds.Id ∷ takes words.Uacc kinds.Level ∷ flag words.Warning ∷ flag words.Nowarning
      ∷ takes words.Audit kinds.Audit ∷ takes words.Globalaudit kinds.Audit ∷ takes words.Seclevel kinds.Id
      ∷ flag words.Noseclevel ∷ takes words.Addcategory kinds.Ids ∷ takes words.Delcategory kinds.Ids
      ∷ takes words.Seclabel kinds.Id ∷ flag words.Noseclabel ∷ takes words.Generic kinds.Generic ∷ [];
  excluded =
      (words.Warning, words.Nowarning) ∷ (words.Seclevel, words.Noseclevel)
      ∷ (words.Seclabel, words.Noseclabel) ∷ [];
  needed = [];
}
row_of verbs.DelSd = record {
  name = codes "DELDSD";
  abbreviation = codes "DD";
  positions = data_set_profile;
  operands =
      takes words.Generic kinds.Generic ∷ [];
  excluded = [];
  needed = [];
}
row_of verbs.RDefine = record {
  name = codes "RDEFINE";
  abbreviation = codes "RDEF";
  positions = class_and_profile;
  operands =
      takes words.Owner kinds.Id ∷ takes words.Uacc kinds.Level ∷ flag words.Warning ∷ flag words.Nowarning
      ∷ takes words.Audit kinds.Audit ∷ takes words.Seclevel kinds.Id ∷ takes words.Addcategory kinds.Ids
      ∷ takes words.Seclabel kinds.Id ∷ takes words.Addmem kinds.AddedMembers ∷ [];
  excluded =
      (words.Warning, words.Nowarning) ∷ [];
  needed = [];
}
row_of verbs.RAlter = record {
  name = codes "RALTER";
  abbreviation = codes "RALT";
  positions = class_and_profile;
  operands =
      takes words.Owner kinds.Id ∷ takes words.Uacc kinds.Level ∷ flag words.Warning ∷ flag words.Nowarning
      ∷ takes words.Audit kinds.Audit ∷ takes words.Globalaudit kinds.Audit ∷ takes words.Seclevel kinds.Id
      ∷ flag words.Noseclevel ∷ takes words.Addcategory kinds.Ids ∷ takes words.Delcategory kinds.Ids
      ∷ takes words.Seclabel kinds.Id ∷ flag words.Noseclabel ∷ takes words.Addmem kinds.AddedMembers
      ∷ takes words.Delmem kinds.DroppedMembers ∷ [];
  excluded =
      (words.Warning, words.Nowarning) ∷ (words.Seclevel, words.Noseclevel)
      ∷ (words.Seclabel, words.Noseclabel) ∷ [];
  needed = [];
}
row_of verbs.DefineClass = record {
  name = codes "RDEFINE";
  abbreviation = codes "RDEF";
  positions = class_and_profile;
  operands =
      takes words.Owner kinds.Id ∷ takes words.Maxlength kinds.Length ∷ takes words.Operations kinds.Truth
      ∷ takes words.Names kinds.ClassNames ∷ [];
  excluded = [];
  needed = [];
}
row_of verbs.AlterClass = record {
  name = codes "RALTER";
  abbreviation = codes "RALT";
  positions = class_and_profile;
  operands =
      takes words.Owner kinds.Id ∷ [];
  excluded = [];
  needed = [];
}
row_of verbs.RDelete = record {
  name = codes "RDELETE";
  abbreviation = codes "RDEL";
  positions = class_and_profile;
  operands = [];
  excluded = [];
  needed = [];
}
row_of verbs.Permit = record {
  name = codes "PERMIT";
  abbreviation = codes "PE";
  positions = any_profile;
  operands =
      by_default words.Class kinds.Class (contents.Id (codes "DATASET")) ∷ takes words.Reset kinds.Reset
      ∷ takes words.Id kinds.Whos ∷ by_default words.Access kinds.Level (contents.Level Read)
      ∷ flag words.Delete ∷ takes words.When kinds.When ∷ takes words.Generic kinds.Generic ∷ [];
  excluded =
      (words.Access, words.Delete) ∷ [];
  needed =
      record { asked_by = None; one_of = words.Id ∷ words.Reset ∷ []; missing = words.Id }
      ∷ record { asked_by = Some (words.Access ∷ words.Delete ∷ words.When ∷ []); one_of = words.Id ∷ []; missing = words.Id } ∷ [];
}
row_of verbs.SetRopts = record {
  name = codes "SETROPTS";
  abbreviation = codes "SETR";
  positions = [];
  operands =
      takes words.Classact kinds.Ids ∷ takes words.Noclassact kinds.Ids ∷ flag words.Grplist ∷ flag words.Nogrplist
      ∷ takes words.Protectall kinds.Failures ∷ flag words.Noprotectall ∷ takes words.Mls kinds.Failures
      ∷ flag words.Nomls ∷ takes words.Raclist kinds.Ids ∷ takes words.Noraclist kinds.Ids
      ∷ takes words.Global kinds.Ids ∷ takes words.Noglobal kinds.Ids ∷ takes words.Generic kinds.Ids
      ∷ flag words.Refresh ∷ takes words.Logoptions kinds.LogOptions ∷ [];
  excluded =
      (words.Grplist, words.Nogrplist) ∷ (words.Protectall, words.Noprotectall) ∷ (words.Mls, words.Nomls)
      ∷ (words.Refresh, words.Classact) ∷ (words.Refresh, words.Noclassact) ∷ (words.Refresh, words.Grplist)
      ∷ (words.Refresh, words.Nogrplist) ∷ (words.Refresh, words.Protectall) ∷ (words.Refresh, words.Noprotectall)
      ∷ (words.Refresh, words.Mls) ∷ (words.Refresh, words.Nomls) ∷ (words.Refresh, words.Noraclist)
      ∷ (words.Refresh, words.Noglobal) ∷ (words.Refresh, words.Logoptions) ∷ [];
  needed =
      record { asked_by = Some (words.Refresh ∷ []); one_of = words.Raclist ∷ words.Generic ∷ words.Global ∷ []; missing = words.Raclist } ∷ [];
}
