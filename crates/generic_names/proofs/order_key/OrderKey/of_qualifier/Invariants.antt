-- The key so far is that of the ranks of the bytes at the front.
use Rattle.std.proofs.Common.{◌≡◌, map, take}
use Rattle.generic_names.specs.Before.{rank}
use Rattle.generic_names.specs.OrderKey.{squeezed}
use Rattle.generic_names.proofs.order_key.OrderKey.of_qualifier.Given as goal

abbrev pub invariant-loop-byte : goal.invariant-loop-byte
invariant-loop-byte l = l.key ≡ map squeezed (map rank (take l.byte-index l.qualifier))
