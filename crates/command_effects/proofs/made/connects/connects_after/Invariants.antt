use Rattle.std.proofs.Common.{◌≡◌, ◌++◌, drop}
use Rattle.command_rules.specs.Effects.{connects_after}
use Rattle.command_effects.proofs.ConnectLaws.{rest_after}
use Rattle.command_effects.proofs.made.connects.connects_after.Given as goal

abbrev pub invariant-loop-connection : goal.invariant-loop-connection
invariant-loop-connection l = l.connects.items ++ rest_after l.command l.group l.met (drop l.connection-index l.old) ≡ connects_after l.command l.group l.old
