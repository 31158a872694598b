use Rattle.std.proofs.Common.{◌≡◌, take}
use Rattle.raclist_image.specs.PlacedNames.{profile_names}
use Rattle.raclist_image.proofs.names.names_of.Given as goal

abbrev pub invariant-loop-profile : goal.invariant-loop-profile
invariant-loop-profile l = l.total ≡ profile_names (take l.profile-index l.profiles)
