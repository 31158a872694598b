use Rattle.std.proofs.Common.{◌≡◌, ◌-◌, ◌≤◌, [], map, length}
use Rattle.database_image.specs.Forms.{items_from}
use Rattle.database_image.specs.Description.{cond_entry, cond_entry_key}
use Rattle.database_image.proofs.entries.cond_entries_from.Given as goal

abbrev pub invariant-loop : goal.invariant-loop
invariant-loop l = record {
  noted : l.names ≡ map cond_entry_key l.items.items;
  counted : length l.items.items ≡ l.counter;
  within : l.counter ≤ l.count;
  read : items_from cond_entry (l.count - l.counter) l.items.items l.left ≡ items_from cond_entry l.count [] l.fn.left;
}
