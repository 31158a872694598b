-- The command on options, each field read from the operand of its name.
use Rattle.command_values.specs.declared.operand_words.Word.TheVariants as words
use Rattle.command_grammar.specs.declared.table.Verb.TheVariants as verbs
use Rattle.command_grammar.specs.Reading.{Slots}
use Rattle.command_fields.specs.declared.option_fields.SetRopts.{SetRopts}
use Rattle.command_parser.specs.Fields.{found_for, flag_in, ids_in, log_clauses_in}

-- SETROPTS
abbrev pub set_ropts_in : Slots → SetRopts
set_ropts_in slots = let operand = found_for verbs.SetRopts slots in record {
  classact = ids_in (operand words.Classact);
  noclassact = ids_in (operand words.Noclassact);
  grplist = flag_in (operand words.Grplist);
  nogrplist = flag_in (operand words.Nogrplist);
  protectall = flag_in (operand words.Protectall);
  noprotectall = flag_in (operand words.Noprotectall);
  mls = flag_in (operand words.Mls);
  nomls = flag_in (operand words.Nomls);
  raclist = ids_in (operand words.Raclist);
  noraclist = ids_in (operand words.Noraclist);
  global = ids_in (operand words.Global);
  noglobal = ids_in (operand words.Noglobal);
  generic = ids_in (operand words.Generic);
  refresh = flag_in (operand words.Refresh);
  logoptions = log_clauses_in (operand words.Logoptions);
}
