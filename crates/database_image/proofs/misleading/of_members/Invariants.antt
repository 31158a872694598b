use Rattle.std.proofs.Common.{◌≡◌, ◌+◌, ◌<◌, ◌^◌, drop}
use Rattle.std.specs.List.{sum_by}
use Rattle.database_image.specs.Facts.{told_of_each, first_broken, member_width}
use Rattle.database_image.specs.Misleading.{member_marks}
use Rattle.database_image.proofs.misleading.of_members.Given as goal

abbrev pub invariant-loop-member : goal.invariant-loop-member
invariant-loop-member l = record {
  rest : first_broken (told_of_each member_width (member_marks l.kind) l.at (drop l.member-index l.members)) ≡ first_broken (told_of_each member_width (member_marks l.kind) l.place l.members);
  room : l.at + sum_by member_width (drop l.member-index l.members) < 2 ^ 64;
}
