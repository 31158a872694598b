-- What isn't taken away is left.
use Rattle.std.proofs.Common.{◌∙◌}
use Rattle.command_rules.proofs.ListCounts.{conditionals-left}
use Rattle.command_rules.proofs.permit.count_without_conditional.Goals as goal

pub returns : goal.returns
returns c = c.count_left_under.ensures ∙ conditionals-left c.args.command.now c.args.condition.now c.requires c.args.list.now c.args.whos.now
