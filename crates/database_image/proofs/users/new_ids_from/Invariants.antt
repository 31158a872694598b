use Rattle.std.proofs.Common.{◌≡◌, ◌-◌, ◌≤◌, [], length}
use Rattle.database_image.specs.Forms.{items_from}
use Rattle.database_image.specs.Fields.{id, is_new}
use Rattle.database_image.proofs.users.new_ids_from.Given as goal

abbrev pub invariant-loop : goal.invariant-loop
invariant-loop l = record {
  noted : l.names ≡ l.items.items;
  counted : length l.items.items ≡ l.counter;
  within : l.counter ≤ l.count;
  read : items_from (λ before. id (is_new before)) (l.count - l.counter) l.items.items l.left ≡ items_from (λ before. id (is_new before)) l.count [] l.fn.left;
}
