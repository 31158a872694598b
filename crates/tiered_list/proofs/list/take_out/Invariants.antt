use Rattle.std.proofs.Common.{◌≡◌, ◌-◌, length, Some}
use Rattle.std.specs.List.{remove, slice_get}
use Rattle.tiered_list.specs.Rows.{row_items}
use Rattle.tiered_list.proofs.RowLaws.{IsShort}
use Rattle.tiered_list.proofs.list.take_out.Given as goal

abbrev pub invariant-loop-row : goal.invariant-loop-row
invariant-loop-row g l =
    record {
      item : slice_get (row_items l.fn.rows) l.fn.place ≡ Some l.item;
      long : length l.rows ≡ length l.fn.rows;
      short : IsShort l.rows l.row (length (row_items l.fn.rows)) (remove (row_items l.fn.rows) l.fn.place);
    }

abbrev pub decreases-loop-row : goal.decreases-loop-row
decreases-loop-row g l = length l.rows - l.row
