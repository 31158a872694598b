use Rattle.std.proofs.Common.{◌≡◌, ◌++◌, ℕ, List, [], take}
use Rattle.std.specs.List.{flat_map, AllByRecursion}
use Rattle.database_image.specs.Description.{class}
use Rattle.database_image.specs.Spelled.{IsSpelledClass}
use Rattle.database_image.proofs.writing.put_classes.Given as goal

abbrev pub invariant-loop-row : goal.invariant-loop-row
invariant-loop-row l = record {
  bytes : (names : List (List ℕ)) → l.out.items ≡ l.fn.out.items ++ flat_map (class names []).bytes (take l.row-index l.classes);
  spelled : AllByRecursion IsSpelledClass (take l.row-index l.classes);
}
