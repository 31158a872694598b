use Rattle.std.proofs.Common.{◌≡◌, take}
use Rattle.std.specs.List.{sum_by}
use Rattle.racf_profiles.specs.Counts.{entries_in}
use Rattle.database_image.proofs.classes.entries_of.Given as goal

abbrev pub invariant-loop-profile : goal.invariant-loop-profile
invariant-loop-profile l = l.entries ≡ sum_by entries_in (take l.profile-index l.class.profiles)
