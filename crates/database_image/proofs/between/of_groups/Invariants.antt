use Rattle.std.proofs.Common.{◌≡◌, ◌+◌, ◌<◌, ◌^◌, drop}
use Rattle.std.specs.List.{sum_by}
use Rattle.database_image.specs.Facts.{told_of_each, first_broken, group_width, group_facts}
use Rattle.database_image.proofs.between.of_groups.Given as goal

abbrev pub invariant-loop-group : goal.invariant-loop-group
invariant-loop-group l = record {
  rest : first_broken (told_of_each group_width (group_facts l.rows) l.at (drop l.group-index l.groups)) ≡ first_broken (told_of_each group_width (group_facts l.rows) l.place l.groups);
  room : l.at + sum_by group_width (drop l.group-index l.groups) < 2 ^ 64;
}
