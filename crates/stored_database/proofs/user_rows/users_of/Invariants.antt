use Rattle.std.proofs.Common.{◌≡◌, ◌≤◌, ◌++◌, length}
use Rattle.std.specs.Vec.Iter.{into_iter_items}
use Rattle.stored_database.proofs.user_rows.users_of.Given as goal

-- the users that were put and those that are left are all, and there is room for these
abbrev pub invariant-loop-user : goal.invariant-loop-user
invariant-loop-user l = record {
  whole : l.table.users ++ into_iter_items l.user-iterator ≡ l.fn.users.items;
  room : length (into_iter_items l.user-iterator) ≤ l.table.spare;
}
