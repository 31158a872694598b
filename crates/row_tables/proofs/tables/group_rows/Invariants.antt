use Rattle.std.proofs.Common.{◌≡◌, take}
use Rattle.row_tables.proofs.tables.group_rows.Given as goal

-- the groups so far are those at the front
abbrev pub invariant-loop-place : goal.invariant-loop-place
invariant-loop-place l = l.items.items ≡ take l.place l.fn.tree.groups
