-- The commands on profiles, each field read from the operand of its name.
use Rattle.std.specs.Prelude.{ℕ, List}
use Rattle.generic_names.specs.Spelled.{Spelled}
use Rattle.command_fields.specs.declared.profile_fields.AddSd.{AddSd}
use Rattle.command_fields.specs.declared.profile_fields.AltSd.{AltSd}
use Rattle.command_fields.specs.declared.profile_fields.RDefine.{RDefine}
use Rattle.command_fields.specs.declared.profile_fields.RAlter.{RAlter}
use Rattle.command_fields.specs.declared.profile_fields.Permit.{Permit}
use Rattle.command_fields.specs.declared.class_fields.DefineClass.{DefineClass}
use Rattle.command_fields.specs.declared.class_fields.AlterClass.{AlterClass}
use Rattle.command_values.specs.declared.operand_words.Word.TheVariants as words
use Rattle.command_grammar.specs.declared.table.Verb.TheVariants as verbs
use Rattle.command_grammar.specs.Reading.{Slots}
use Rattle.command_parser.specs.Fields.{found_for, flag_in, id_in, ids_in, level_in, audit_in, reset_in, whos_in, when_in, members_in, member_names_in, length_in, truth_in, class_names_in}

-- ADDSD
abbrev pub add_sd_in : Spelled → Slots → AddSd
add_sd_in profile slots = let operand = found_for verbs.AddSd slots in record {
  profile = profile;
  owner = id_in (operand words.Owner);
  uacc = level_in (operand words.Uacc);
  warning = flag_in (operand words.Warning);
  nowarning = flag_in (operand words.Nowarning);
  audit = audit_in (operand words.Audit);
  seclevel = id_in (operand words.Seclevel);
  addcategory = ids_in (operand words.Addcategory);
  seclabel = id_in (operand words.Seclabel);
}

-- ALTDSD
abbrev pub alt_sd_in : Spelled → Slots → AltSd
alt_sd_in profile slots = let operand = found_for verbs.AltSd slots in record {
  profile = profile;
  owner = id_in (operand words.Owner);
  uacc = level_in (operand words.Uacc);
  warning = flag_in (operand words.Warning);
  nowarning = flag_in (operand words.Nowarning);
  audit = audit_in (operand words.Audit);
  globalaudit = audit_in (operand words.Globalaudit);
  seclevel = id_in (operand words.Seclevel);
  noseclevel = flag_in (operand words.Noseclevel);
  addcategory = ids_in (operand words.Addcategory);
  delcategory = ids_in (operand words.Delcategory);
  seclabel = id_in (operand words.Seclabel);
  noseclabel = flag_in (operand words.Noseclabel);
}

-- RDEFINE
abbrev pub r_define_in : List ℕ → Spelled → Slots → RDefine
r_define_in class profile slots = let operand = found_for verbs.RDefine slots in record {
  class = class;
  profile = profile;
  owner = id_in (operand words.Owner);
  uacc = level_in (operand words.Uacc);
  warning = flag_in (operand words.Warning);
  nowarning = flag_in (operand words.Nowarning);
  audit = audit_in (operand words.Audit);
  seclevel = id_in (operand words.Seclevel);
  addcategory = ids_in (operand words.Addcategory);
  seclabel = id_in (operand words.Seclabel);
  addmem = members_in (operand words.Addmem);
}

-- RDEFINE in class CDT
abbrev pub define_class_in : Spelled → Slots → DefineClass
define_class_in profile slots = let operand = found_for verbs.DefineClass slots in record {
  profile = profile;
  owner = id_in (operand words.Owner);
  maxlength = length_in (operand words.Maxlength);
  operations = truth_in (operand words.Operations);
  names = class_names_in (operand words.Names);
}

-- RALTER in class CDT
abbrev pub alter_class_in : Spelled → Slots → AlterClass
alter_class_in profile slots = let operand = found_for verbs.AlterClass slots in record {
  profile = profile;
  owner = id_in (operand words.Owner);
}

-- RALTER
abbrev pub r_alter_in : List ℕ → Spelled → Slots → RAlter
r_alter_in class profile slots = let operand = found_for verbs.RAlter slots in record {
  class = class;
  profile = profile;
  owner = id_in (operand words.Owner);
  uacc = level_in (operand words.Uacc);
  warning = flag_in (operand words.Warning);
  nowarning = flag_in (operand words.Nowarning);
  audit = audit_in (operand words.Audit);
  globalaudit = audit_in (operand words.Globalaudit);
  seclevel = id_in (operand words.Seclevel);
  noseclevel = flag_in (operand words.Noseclevel);
  addcategory = ids_in (operand words.Addcategory);
  delcategory = ids_in (operand words.Delcategory);
  seclabel = id_in (operand words.Seclabel);
  noseclabel = flag_in (operand words.Noseclabel);
  addmem = members_in (operand words.Addmem);
  delmem = member_names_in (operand words.Delmem);
}

-- PERMIT, whose class is named always
abbrev pub permit_in : Spelled → List ℕ → Slots → Permit
permit_in profile class slots = let operand = found_for verbs.Permit slots in record {
  profile = profile;
  class = class;
  reset = reset_in (operand words.Reset);
  id = whos_in (operand words.Id);
  access = level_in (operand words.Access);
  delete = flag_in (operand words.Delete);
  when = when_in (operand words.When);
}
