use Rattle.std.proofs.Common.{◌≡◌, take}
use Rattle.raclist_image.proofs.classes.ClassList.of.Given as goal

-- the classes so far
abbrev pub invariant-loop-row : goal.invariant-loop-row
invariant-loop-row l = l.classes.items ≡ take l.row-index l.rows
