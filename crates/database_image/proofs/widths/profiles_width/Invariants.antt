use Rattle.std.proofs.Common.{◌≡◌, take}
use Rattle.std.specs.List.{sum_by}
use Rattle.database_image.specs.Facts.{profile_width}
use Rattle.database_image.proofs.widths.profiles_width.Given as goal

abbrev pub invariant-loop-profile : goal.invariant-loop-profile
invariant-loop-profile l = l.width ≡ sum_by profile_width (take l.profile-index l.profiles)
