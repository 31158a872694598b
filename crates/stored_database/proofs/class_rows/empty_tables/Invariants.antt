use Rattle.std.proofs.Common.{◌≡◌, take}
use Rattle.stored_database.proofs.EmptyTables.{with_added}
use Rattle.stored_database.proofs.class_rows.empty_tables.Given as goal

-- the fixed classes are there, and the dynamic ones so far
abbrev pub invariant-loop-class : goal.invariant-loop-class
invariant-loop-class l = l.tables.classes ≡ with_added (take l.class-index l.dynamic)
