-- One group more.
use Rattle.std.proofs.Common.{refl}
use Rattle.class_profiles.proofs.Order.{take-next}
use Rattle.row_tables.proofs.tables.group_rows.Goals as goal

pub loop-place-preserved : goal.loop-place-preserved
loop-place-preserved c = take-next c.args.tree.now.groups c.loop-place.place c.at-group.result.now c.at-group.result.now c.loop-place.items.items c.push.new.self.items c.at-group.ensures refl c.loop-place.invariant c.in_ok-push.ensures.items
