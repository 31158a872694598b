use Rattle.command_parser.proofs.Tabled.{words-tabled, canonical-canon}
use Rattle.command_parser.proofs.laws.operands_are_the_tables.Goals as goal

pub returns-clause-words : goal.returns-clause-words
returns-clause-words c = words-tabled

pub returns-clause-text : goal.returns-clause-text
returns-clause-text c = canonical-canon
