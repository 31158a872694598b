-- The profiles so far are those at the front.
use Rattle.std.proofs.Common.{◌≡◌, take}
use Rattle.class_profiles.proofs.table.ProfileTable.rows.Given as goal

abbrev pub invariant-loop-place : goal.invariant-loop-place
invariant-loop-place l = l.items.items ≡ take l.place l.fn.self.profiles
