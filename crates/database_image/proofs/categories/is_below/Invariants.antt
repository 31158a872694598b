use Rattle.std.proofs.Common.{◌≡◌, ◌≤◌, ◌<◌, ℕ, false}
use Rattle.access_levels.specs.Category.{is_member}
use Rattle.database_image.proofs.categories.is_below.Given as goal

abbrev pub invariant-loop-n : goal.invariant-loop-n
invariant-loop-n l = (m : ℕ) → l.count ≤ m → m < l.n → is_member l.set m ≡ false
