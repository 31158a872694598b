use Rattle.std.proofs.Common.{◌≡◌, ◌++◌, [], take}
use Rattle.std.specs.List.{flat_map, AllByRecursion}
use Rattle.database_image.specs.Description.{cond_entry}
use Rattle.access_levels.specs.declared.entries.CondEntry.{CondEntry}
use Rattle.database_image.specs.Spelled.{IsId, IsWho}
use Rattle.database_image.proofs.writing.put_cond_entries.Given as goal

abbrev pub invariant-loop-row : goal.invariant-loop-row
invariant-loop-row l = record {
  bytes : l.out.items ≡ l.fn.out.items ++ flat_map (cond_entry []).bytes (take l.row-index l.entries);
  spelled : AllByRecursion (λ (entry : CondEntry). IsId entry.condition.name × IsWho entry.who) (take l.row-index l.entries);
}
