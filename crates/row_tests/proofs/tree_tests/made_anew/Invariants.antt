use Rattle.std.proofs.Common.{◌≡◌, take, length}
use Rattle.racf_profiles.specs.Tree.{IsTree}
use Rattle.row_tests.proofs.tree_tests.made_anew.Given as goal

-- the groups so far
abbrev pub invariant-loop-place : goal.invariant-loop-place
invariant-loop-place l = record {
  listed : l.groups.items ≡ take l.place l.tree.groups;
  count : l.place-end ≡ length l.tree.groups;
  lawful : IsTree l.tree.groups;
}
