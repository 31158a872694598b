use Rattle.std.proofs.Common.{◌≡◌, ◌+◌, ◌<◌, ◌^◌, drop}
use Rattle.std.specs.List.{sum_by}
use Rattle.database_image.specs.Facts.{told_of_each, first_broken, profile_width, definition_facts}
use Rattle.database_image.proofs.between.of_definitions.Given as goal

abbrev pub invariant-loop-profile : goal.invariant-loop-profile
invariant-loop-profile l = record {
  rest : first_broken (told_of_each profile_width (definition_facts l.rows) l.at (drop l.profile-index l.profiles)) ≡ first_broken (told_of_each profile_width (definition_facts l.rows) l.place l.profiles);
  room : l.at + sum_by profile_width (drop l.profile-index l.profiles) < 2 ^ 64;
}
