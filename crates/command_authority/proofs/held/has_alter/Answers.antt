use Rattle.std.proofs.Common.{◌∙◌}
use Rattle.command_authority.proofs.AlterLaws.{alter_by_group}
use Rattle.command_authority.proofs.held.has_alter.Goals as goal

pub returns-in-None : goal.returns-in-None
returns-in-None c = c.has_group_alter.ensures ∙ alter_by_group c.args.user.now c.args.list.now c.in-None.ensures
