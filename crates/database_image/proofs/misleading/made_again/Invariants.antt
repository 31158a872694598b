use Rattle.std.proofs.Common.{◌≡◌, ℕ, ◌%◌, ◌^◌}
use Rattle.std.specs.Prelude.{nat_lt, ◌&&◌}
use Rattle.access_levels.specs.Category.{is_member}
use Rattle.database_image.proofs.misleading.made_again.Given as goal

abbrev pub invariant-loop-n : goal.invariant-loop-n
invariant-loop-n l = (m : ℕ) → is_member l.again m ≡ (nat_lt m l.n && is_member (l.set % 2 ^ 256) m)
