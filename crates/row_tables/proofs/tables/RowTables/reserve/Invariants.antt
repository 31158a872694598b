use Rattle.std.proofs.Common.{take}
use Rattle.row_tables.specs.Applying.{HasAtLeast, HasRoomFor}
use Rattle.row_tables.proofs.tables.RowTables.reserve.Given as goal

-- the rows are as they were, with no less room, and there is room for what the edits so far add
abbrev pub invariant-loop-edit : goal.invariant-loop-edit
invariant-loop-edit l = HasAtLeast l.initial.self l.self × HasRoomFor l.more (take l.edit-index l.edits) l.self
