use Rattle.std.proofs.Common.{sym, ◌∙◌}
use Rattle.command_grammar.specs.Parts.{generic}
use Rattle.command_parser.proofs.Views.{no_command, its_command}
use Rattle.command_parser.proofs.convert.fields_in_parts.Goals as goal

pub unreachable-requires : goal.unreachable-requires
unreachable-requires c = no_command (generic c.args.parts) c.requires (sym c.command_in_parts.ensures ∙ c.in-None.is)

pub returns : goal.returns
returns c = its_command (generic c.args.parts) c.in-Some.fields c.requires (sym c.command_in_parts.ensures ∙ c.in-Some.is)
