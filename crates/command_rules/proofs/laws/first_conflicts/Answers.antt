-- The first has the least number.
use Rattle.command_rules.specs.Conflicts.{conflicts}
use Rattle.command_rules.proofs.Numbered.{early-first}
use Rattle.command_rules.proofs.Orders.{conflicts-ascending}
use Rattle.command_rules.proofs.laws.first_conflicts.Goals as goal

pub returns : goal.returns
returns c = λ issuer command rows. early-first (conflicts issuer command rows) (conflicts-ascending issuer command rows)
