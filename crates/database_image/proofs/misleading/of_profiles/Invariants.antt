use Rattle.std.proofs.Common.{◌≡◌, ◌+◌, ◌<◌, ◌^◌, drop}
use Rattle.std.specs.List.{sum_by}
use Rattle.database_image.specs.Facts.{told_of_each, first_broken, profile_width}
use Rattle.database_image.specs.Misleading.{profile_marks}
use Rattle.database_image.proofs.misleading.of_profiles.Given as goal

abbrev pub invariant-loop-profile : goal.invariant-loop-profile
invariant-loop-profile l = record {
  rest : first_broken (told_of_each profile_width (profile_marks l.kind) l.at (drop l.profile-index l.profiles)) ≡ first_broken (told_of_each profile_width (profile_marks l.kind) l.place l.profiles);
  room : l.at + sum_by profile_width (drop l.profile-index l.profiles) < 2 ^ 64;
}
