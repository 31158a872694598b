use Rattle.std.proofs.Common.{◌≡◌, ◌++◌, ◌-◌}
use Rattle.std.specs.Int.{bytes_low_first}
use Rattle.database_image.proofs.putting.put_set.Given as goal

abbrev pub invariant-loop-place : goal.invariant-loop-place
invariant-loop-place l = l.out.items ++ bytes_low_first l.place (32 - l.place) l.set ≡ l.fn.out.items ++ bytes_low_first 0 32 l.set
