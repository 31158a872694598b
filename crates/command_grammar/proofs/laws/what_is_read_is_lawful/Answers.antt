use Rattle.command_grammar.proofs.ReadLawful.{read_lawful}
use Rattle.command_grammar.proofs.laws.what_is_read_is_lawful.Goals as goal

pub returns : goal.returns
returns c = read_lawful
