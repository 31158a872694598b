use Rattle.std.proofs.Common.{◌≡◌}
use Rattle.std.specs.Vec.Iter.{into_iter_items}
use Rattle.racf_profiles.specs.Edits.{changed}
use Rattle.row_tables.specs.Applying.{CanApply}
use Rattle.row_tables.proofs.tables.RowTables.apply.Given as goal

-- what is still to come can be made, and makes the rest of the change
abbrev pub invariant-loop-edit : goal.invariant-loop-edit
invariant-loop-edit l = CanApply l.self (into_iter_items l.edit-iterator) × (changed (into_iter_items l.edit-iterator) l.self.rows ≡ changed l.fn.edits.items l.fn.self.rows)
