use Rattle.std.proofs.Common.{◌≡◌, ◌+◌, ◌<◌, ◌^◌, drop}
use Rattle.std.specs.List.{sum_by}
use Rattle.database_image.specs.Facts.{told_of_each, first_broken, user_width}
use Rattle.database_image.specs.Misleading.{user_marks}
use Rattle.database_image.proofs.misleading.of_users.Given as goal

abbrev pub invariant-loop-user : goal.invariant-loop-user
invariant-loop-user l = record {
  rest : first_broken (told_of_each user_width user_marks l.at (drop l.user-index l.users)) ≡ first_broken (told_of_each user_width user_marks l.place l.users);
  room : l.at + sum_by user_width (drop l.user-index l.users) < 2 ^ 64;
}
