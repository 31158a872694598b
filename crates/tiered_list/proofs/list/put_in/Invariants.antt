use Rattle.std.proofs.Common.{◌≡◌, ◌-◌, length}
use Rattle.std.specs.List.{insert}
use Rattle.tiered_list.specs.Rows.{row_items}
use Rattle.tiered_list.proofs.RowLaws.{IsCarried}
use Rattle.tiered_list.proofs.list.put_in.Given as goal

abbrev pub invariant-loop-carried : goal.invariant-loop-carried
invariant-loop-carried g l =
    record {
      long : length l.rows ≡ length l.fn.rows;
      carried : IsCarried l.rows l.row l.carried (length (row_items l.fn.rows)) (insert (row_items l.fn.rows) l.fn.place l.fn.item);
    }

abbrev pub decreases-loop-carried : goal.decreases-loop-carried
decreases-loop-carried g l = length l.rows - l.row
