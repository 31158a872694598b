use Rattle.command_history.proofs.Extensions.{extends_both, extends_beginning, learned_all}
use Rattle.command_history.proofs.laws.later_lists_extend_earlier_ones.Goals as goal

pub returns-clause-both : goal.returns-clause-both
returns-clause-both c = extends_both

pub returns-clause-beginning : goal.returns-clause-beginning
returns-clause-beginning c = extends_beginning

pub returns-clause-learned : goal.returns-clause-learned
returns-clause-learned c = learned_all
