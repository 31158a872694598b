use Rattle.std.proofs.Common.{◌≡◌, ◌++◌, [], take}
use Rattle.std.specs.List.{flat_map, AllByRecursion}
use Rattle.database_image.specs.Description.{group}
use Rattle.database_image.specs.Spelled.{IsSpelledGroup}
use Rattle.database_image.proofs.writing.put_groups.Given as goal

abbrev pub invariant-loop-group : goal.invariant-loop-group
invariant-loop-group l = record {
  bytes : l.out.items ≡ l.fn.out.items ++ flat_map (group []).bytes (take l.group-index l.groups);
  spelled : AllByRecursion IsSpelledGroup (take l.group-index l.groups);
}
