use Rattle.std.proofs.Common.{◌≡◌, ◌-◌, ◌≤◌, [], map, length}
use Rattle.racf_profiles.specs.declared.users.Connect.{Connect as Connection}
use Rattle.database_image.specs.Forms.{items_from}
use Rattle.database_image.specs.Description.{connection}
use Rattle.database_image.proofs.users.connects_from.Given as goal

abbrev pub invariant-loop : goal.invariant-loop
invariant-loop l = record {
  noted : l.names ≡ map (λ (connection : Connection). connection.group) l.items.items;
  counted : length l.items.items ≡ l.counter;
  within : l.counter ≤ l.count;
  read : items_from connection (l.count - l.counter) l.items.items l.left ≡ items_from connection l.count [] l.fn.left;
}
