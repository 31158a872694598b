use Rattle.std.proofs.Common.{◌≡◌, length}
use Rattle.statements.specs.Joining.{going_on}
use Rattle.statements.proofs.joining.going_on.Given as goal

abbrev pub invariant-loop-rest : goal.invariant-loop-rest
invariant-loop-rest l = going_on l.rest ≡ going_on l.fn.text

abbrev pub decreases-loop-rest : goal.decreases-loop-rest
decreases-loop-rest l = length l.rest
