use Rattle.std.proofs.Common.{◌≡◌, ◌+◌, ◌<◌, ◌^◌, drop}
use Rattle.std.specs.List.{sum_by}
use Rattle.database_image.specs.Facts.{told_of_each, first_broken, connect_width, connect_facts}
use Rattle.database_image.proofs.between.of_connects.Given as goal

abbrev pub invariant-loop-connect : goal.invariant-loop-connect
invariant-loop-connect l = record {
  rest : first_broken (told_of_each connect_width (connect_facts l.rows) l.at (drop l.connect-index l.connects)) ≡ first_broken (told_of_each connect_width (connect_facts l.rows) l.place l.connects);
  room : l.at + sum_by connect_width (drop l.connect-index l.connects) < 2 ^ 64;
}
