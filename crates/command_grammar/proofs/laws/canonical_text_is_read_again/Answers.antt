use Rattle.command_grammar.proofs.ReadAgain.{spelled_again}
use Rattle.command_grammar.proofs.laws.canonical_text_is_read_again.Goals as goal

pub returns : goal.returns
returns c = spelled_again
