use Rattle.std.proofs.Common.{◌≡◌, ◌++◌}
use Rattle.defined_rows.proofs.rows.DefinedRows.of.Given as goal

abbrev pub invariant-loop-row : goal.invariant-loop-row
invariant-loop-row g l = record {
  same : l.table ≡ l.yielded;
  whole : l.yielded ++ l.row-iterator.rest.items ≡ l.fn.rows.items;
}
