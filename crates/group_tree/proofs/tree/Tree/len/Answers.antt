use Rattle.group_tree.proofs.Ways.{none_below_itself}
use Rattle.group_tree.proofs.tree.Tree.len.Goals as goal

pub returns-clause-no_group_below_itself : goal.returns-clause-no_group_below_itself
returns-clause-no_group_below_itself c id = rw (← c.self.view_is) (none_below_itself _ c.self.invariant.lawful id)
