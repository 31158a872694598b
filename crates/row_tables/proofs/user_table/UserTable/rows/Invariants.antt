use Rattle.std.proofs.Common.{◌≡◌, take}
use Rattle.row_tables.proofs.user_table.UserTable.rows.Given as goal

-- the users so far are those at the front
abbrev pub invariant-loop-place : goal.invariant-loop-place
invariant-loop-place l = l.items.items ≡ take l.place l.fn.self.users
