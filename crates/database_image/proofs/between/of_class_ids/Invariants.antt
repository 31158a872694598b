use Rattle.std.proofs.Common.{◌≡◌, ◌+◌, ◌<◌, ◌^◌, drop}
use Rattle.std.specs.List.{sum_by}
use Rattle.database_image.specs.Facts.{told_of_each, first_broken, class_id_width, class_id_facts}
use Rattle.database_image.proofs.between.of_class_ids.Given as goal

abbrev pub invariant-loop-name : goal.invariant-loop-name
invariant-loop-name l = record {
  rest : first_broken (told_of_each class_id_width (class_id_facts l.rows) l.at (drop l.name-index l.names)) ≡ first_broken (told_of_each class_id_width (class_id_facts l.rows) l.place l.names);
  room : l.at + sum_by class_id_width (drop l.name-index l.names) < 2 ^ 64;
}
