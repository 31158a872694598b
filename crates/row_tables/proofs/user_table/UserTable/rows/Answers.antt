-- one user more
use Rattle.class_profiles.proofs.Order.{take-next}
use Rattle.row_tables.proofs.user_table.UserTable.rows.Goals as goal

pub loop-place-preserved : goal.loop-place-preserved
loop-place-preserved c = take-next c.args.self.now.users c.loop-place.place c.at.result.now c.in_ok-copy.field-0 c.loop-place.items.items c.push.new.self.items c.at.ensures c.in_ok-copy.ensures c.loop-place.invariant c.in_ok-push.ensures.items
