use Rattle.std.proofs.Common.{◌≡◌, take}
use Rattle.raclist_image.proofs.classes.shared.Given as goal

-- the classes so far
abbrev pub invariant-loop-entry : goal.invariant-loop-entry
invariant-loop-entry l = l.classes.items ≡ take l.entry-index l.entries
