use Rattle.command_parser.proofs.OneCommand.{only_found}
use Rattle.command_parser.proofs.commands.parse.Goals as goal

pub returns-clause-only : goal.returns-clause-only
returns-clause-only c = λ d spells. only_found c.parse_exact.result c.args.issuer c.args.text.now d c.parse_exact.ensures spells
