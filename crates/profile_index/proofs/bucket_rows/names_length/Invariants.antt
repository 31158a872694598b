use Rattle.std.proofs.Common.{◌≡◌, ◌*◌, ◌≤◌, map, take}
use Rattle.std.specs.Arc.{arc_value}
use Rattle.profile_index.specs.Buckets.{names_length}
use Rattle.profile_index.proofs.bucket_rows.names_length.Given as goal

abbrev pub invariant-loop-entry : goal.invariant-loop-entry
invariant-loop-entry g l = record {
  length : l.total ≡ names_length (map arc_value (take l.entry-index l.entries));
  most : l.total ≤ 246 * l.entry-index;
}
