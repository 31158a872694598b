use Rattle.std.proofs.Common.{◌≡◌, ℕ}
use Rattle.std.specs.Prelude.{nat_lt, ◌&&◌}
use Rattle.access_levels.specs.Category.{is_member}
use Rattle.byteorder.specs.Endian.{little_number}
use Rattle.database_image.proofs.categories.set_in.Given as goal

abbrev pub invariant-loop-n : goal.invariant-loop-n
invariant-loop-n l = (m : ℕ) → is_member l.set m ≡ (nat_lt m l.n && is_member (little_number 32 l.field) m)
