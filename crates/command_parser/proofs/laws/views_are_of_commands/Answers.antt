use Rattle.command_parser.proofs.Views.{command_of-generic}
use Rattle.command_parser.proofs.Spelled.{read_view}
use Rattle.command_parser.proofs.laws.views_are_of_commands.Goals as goal

pub returns-clause-back : goal.returns-clause-back
returns-clause-back c = command_of-generic

pub returns-clause-read : goal.returns-clause-read
returns-clause-read c = read_view c.what_is_read_is_lawful.ensures
