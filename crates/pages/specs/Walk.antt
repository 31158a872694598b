-- What is left of a walk over a list.
use Rattle.std.specs.Prelude.{List, ◌++◌, map, drop}
use Rattle.std.specs.Arc.{arc_value}
use Rattle.pages.specs.declared.walk.Walk.{Walk}

-- the items that are still to come, in order
abbrev pub left : {T : Type 0} → Walk T → List T
left walk = map arc_value walk.leaf.now ++ drop walk.next walk.pages.now
