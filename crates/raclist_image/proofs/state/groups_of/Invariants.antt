use Rattle.std.proofs.Common.{◌≡◌, take}
use Rattle.raclist_image.proofs.state.groups_of.Given as goal

-- the groups so far
abbrev pub invariant-loop-group : goal.invariant-loop-group
invariant-loop-group l = l.items.items ≡ take l.group-index l.groups
