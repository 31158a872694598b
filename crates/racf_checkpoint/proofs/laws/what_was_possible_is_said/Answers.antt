use Rattle.racf_checkpoint.proofs.Finding.{said_together}
use Rattle.racf_checkpoint.proofs.laws.what_was_possible_is_said.Goals as goal

pub returns : goal.returns
returns c one two first second w v = said_together one two first second w v
