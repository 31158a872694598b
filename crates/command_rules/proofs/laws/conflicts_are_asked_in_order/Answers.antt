-- Command by command.
use Rattle.command_rules.proofs.Orders.{conflicts-ascending}
use Rattle.command_rules.proofs.laws.conflicts_are_asked_in_order.Goals as goal

pub returns : goal.returns
returns c = λ issuer command rows. conflicts-ascending issuer command rows
