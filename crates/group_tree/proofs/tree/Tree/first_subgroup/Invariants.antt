use Rattle.std.proofs.Common.{◌≡◌}
use Rattle.group_tree.specs.Groups.{first_subgroup}
use Rattle.group_tree.proofs.tree.Tree.first_subgroup.Given as goal

abbrev pub invariant-loop-group : goal.invariant-loop-group
invariant-loop-group l = first_subgroup l.group-iterator l.superior ≡ first_subgroup l.self.groups l.superior
