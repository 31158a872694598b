use Rattle.command_parser.proofs.Spelled.{one, none}
use Rattle.command_parser.proofs.laws.one_command_is_spelled.Goals as goal

pub returns-clause-one : goal.returns-clause-one
returns-clause-one c = one c.what_is_read_is_lawful.ensures

pub returns-clause-none : goal.returns-clause-none
returns-clause-none c = none c.what_is_read_is_lawful.ensures
