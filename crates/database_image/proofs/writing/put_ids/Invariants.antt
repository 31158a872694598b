use Rattle.std.proofs.Common.{◌≡◌, ◌++◌, take}
use Rattle.std.specs.List.{flat_map, AllByRecursion}
use Rattle.database_image.specs.Fields.{filled}
use Rattle.database_image.specs.Spelled.{IsId}
use Rattle.database_image.proofs.writing.put_ids.Given as goal

abbrev pub invariant-loop-id : goal.invariant-loop-id
invariant-loop-id l = record {
  bytes : l.out.items ≡ l.fn.out.items ++ flat_map filled (take l.id-index l.ids);
  spelled : AllByRecursion IsId (take l.id-index l.ids);
}
