use Rattle.std.proofs.Common.{◌≡◌, ◌++◌, [], take}
use Rattle.std.specs.List.{flat_map, AllByRecursion}
use Rattle.database_image.specs.Description.{entry}
use Rattle.access_levels.specs.declared.entries.Entry.{Entry}
use Rattle.database_image.specs.Spelled.{IsWho}
use Rattle.database_image.proofs.writing.put_entries.Given as goal

abbrev pub invariant-loop-row : goal.invariant-loop-row
invariant-loop-row l = record {
  bytes : l.out.items ≡ l.fn.out.items ++ flat_map (entry []).bytes (take l.row-index l.entries);
  spelled : AllByRecursion (λ (entry : Entry). IsWho entry.who) (take l.row-index l.entries);
}
