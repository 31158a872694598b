use Rattle.std.proofs.Common.{◌≡◌, [], false, length}
use Rattle.command_values.specs.Values.{unquoted}
use Rattle.command_values.proofs.value_reading.unquoted.Given as goal

abbrev pub invariant-loop-byte : goal.invariant-loop-byte
invariant-loop-byte l = unquoted l.met l.text.items l.rest ≡ unquoted false [] l.bytes

abbrev pub decreases-loop-byte : goal.decreases-loop-byte
decreases-loop-byte l = length l.rest
