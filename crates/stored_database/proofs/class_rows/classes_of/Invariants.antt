use Rattle.std.proofs.Common.{◌≡◌, ◌++◌}
use Rattle.std.specs.Vec.Iter.{into_iter_items}
use Rattle.stored_database.specs.Filling.{empty_like}
use Rattle.stored_database.proofs.Classes.{filled}
use Rattle.stored_database.proofs.class_rows.classes_of.Given as goal

-- the classes so far are filled
abbrev pub invariant-loop-class : goal.invariant-loop-class
invariant-loop-class l = record {
  whole : l.yielded ++ into_iter_items l.class-iterator ≡ l.fn.classes.items;
  so_far : l.tables.classes ≡ filled l.yielded (empty_like l.fn.classes.items);
}
