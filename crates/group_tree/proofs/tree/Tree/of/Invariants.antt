use Rattle.std.proofs.Common.{◌≡◌, map, take}
use Rattle.group_tree.proofs.Listed.{entry_of}
use Rattle.group_tree.proofs.tree.Tree.of.Given as goal

-- the groups so far, each under its name
abbrev pub invariant-loop-group : goal.invariant-loop-group
invariant-loop-group l = l.kept.entries ≡ map entry_of (take l.group-index l.groups)
