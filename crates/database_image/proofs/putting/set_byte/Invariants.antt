use Rattle.std.proofs.Common.{◌≡◌, ◌/◌, ◌%◌, ◌^◌}
use Rattle.database_image.proofs.putting.set_byte.Given as goal

abbrev pub invariant-loop-n : goal.invariant-loop-n
invariant-loop-n l = l.byte ≡ l.set / 256 ^ l.place % 2 ^ l.n
