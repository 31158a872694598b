use Rattle.std.proofs.Common.{◌≡◌, ◌-◌, ◌*◌, ◌^◌, ◌≤◌, length, vec_len}
use Rattle.tiered_list.specs.Rows.{row_items, AreTiered}
use Rattle.tiered_list.proofs.list.add_rows.Given as goal

abbrev pub invariant-loop-alloc : goal.invariant-loop-alloc
invariant-loop-alloc g l =
    record {
      few : vec_len l.rows ≤ 2 ^ 24;
      more : vec_len l.fn.rows ≤ vec_len l.rows;
      items : row_items l.rows.items ≡ row_items l.fn.rows.items;
      tiered : AreTiered l.rows.items (length (row_items l.fn.rows.items));
    }

abbrev pub decreases-loop-alloc : goal.decreases-loop-alloc
decreases-loop-alloc g l = l.room - 256 * vec_len l.rows
