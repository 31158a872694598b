-- One edit more.
use Rattle.std.proofs.Common.{◌∙◌}
use Rattle.std.specs.Vec.Iter.{into_iter_items}
use Rattle.row_tables.proofs.Room.{rest_can, rest_changed}
use Rattle.row_tables.proofs.tables.RowTables.apply.Goals as goal

pub loop-edit-preserved : goal.loop-edit-preserved
loop-edit-preserved c =
    let all = into_iter_items c.loop-edit.edit-iterator in
    let rest = into_iter_items c.next.new.self in (
      rest_can c.loop-edit.self c.make.new.self all c.in-Some.edit rest c.in-Some.ensures.steps.0 c.make.ensures c.loop-edit.invariant.0,
      rest_changed c.loop-edit.self c.make.new.self all c.in-Some.edit rest c.in-Some.ensures.steps.0 c.make.ensures ∙ c.loop-edit.invariant.1,
    )
