use Rattle.std.proofs.Common.{◌≡◌, ◌++◌, [], take}
use Rattle.std.specs.List.{flat_map, AllByRecursion}
use Rattle.database_image.specs.Description.{connection}
use Rattle.racf_profiles.specs.declared.users.Connect.{Connect as Connection}
use Rattle.database_image.specs.Spelled.{IsId}
use Rattle.database_image.proofs.writing.put_connects.Given as goal

abbrev pub invariant-loop-row : goal.invariant-loop-row
invariant-loop-row l = record {
  bytes : l.out.items ≡ l.fn.out.items ++ flat_map (connection []).bytes (take l.row-index l.connects);
  spelled : AllByRecursion (λ (connection : Connection). IsId connection.group) (take l.row-index l.connects);
}
