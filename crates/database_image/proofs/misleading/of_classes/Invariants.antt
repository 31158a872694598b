use Rattle.std.proofs.Common.{◌≡◌, ◌+◌, ◌<◌, ◌^◌, drop}
use Rattle.std.specs.List.{sum_by}
use Rattle.database_image.specs.Facts.{told_of_each, first_broken, class_width}
use Rattle.database_image.specs.Misleading.{class_marks}
use Rattle.database_image.proofs.misleading.of_classes.Given as goal

abbrev pub invariant-loop-class : goal.invariant-loop-class
invariant-loop-class l = record {
  rest : first_broken (told_of_each class_width class_marks l.at (drop l.class-index l.classes)) ≡ first_broken (told_of_each class_width class_marks l.place l.classes);
  room : l.at + sum_by class_width (drop l.class-index l.classes) < 2 ^ 64;
}
