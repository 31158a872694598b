-- What isn't taken away is left.
use Rattle.std.proofs.Common.{◌∙◌}
use Rattle.command_rules.proofs.ListCounts.{entries-left}
use Rattle.command_rules.proofs.permit.count_without.Goals as goal

pub returns : goal.returns
returns c = c.count_left.ensures ∙ entries-left c.args.command.now c.requires c.args.list.now c.args.whos.now
