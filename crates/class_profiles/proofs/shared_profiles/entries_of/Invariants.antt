use Rattle.std.proofs.Common.{◌≡◌, take, map}
use Rattle.class_profiles.specs.Paired.{entry_of}
use Rattle.class_profiles.proofs.shared_profiles.entries_of.Given as goal

abbrev pub invariant-loop-profile : goal.invariant-loop-profile
invariant-loop-profile l = l.entries.items ≡ map entry_of (take l.profile-index l.profiles)
