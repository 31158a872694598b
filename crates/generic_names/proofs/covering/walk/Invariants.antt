use Rattle.std.proofs.Common.{◌+◌, ◌-◌, length}
use Rattle.generic_names.proofs.WalkLaws.{Along}
use Rattle.generic_names.proofs.covering.walk.Given as goal

abbrev pub invariant-loop-at : goal.invariant-loop-at
invariant-loop-at l = Along l.kind l.pattern l.initial.at l.name l.initial.from l.at l.from

abbrev pub decreases-loop-at : goal.decreases-loop-at
decreases-loop-at l = length l.initial.pattern + 1 - l.at
