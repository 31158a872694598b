use Rattle.std.proofs.Common.{◌≡◌, ◌≤◌, None, length, drop}
use Rattle.command_values.specs.Members.{parted}
use Rattle.command_values.proofs.members.parted.Given as goal

abbrev pub invariant-loop-end : goal.invariant-loop-end
invariant-loop-end l = record { within : l.end ≤ length l.word; none : parted (drop l.end l.word) ≡ None }

abbrev pub decreases-loop-end : goal.decreases-loop-end
decreases-loop-end l = l.end
