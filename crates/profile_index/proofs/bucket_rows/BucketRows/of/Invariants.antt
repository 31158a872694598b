use Rattle.std.proofs.Common.{◌≡◌, map, take}
use Rattle.std.specs.Arc.{arc_value}
use Rattle.profile_index.specs.Buckets.{keys_room}
use Rattle.profile_index.proofs.bucket_rows.BucketRows.of.Given as goal

abbrev pub invariant-loop-entry : goal.invariant-loop-entry
invariant-loop-entry g l = record {
  entries : l.filling.entries ≡ map arc_value (take l.entry-index l.entries);
  room : l.filling.room ≡ keys_room (map arc_value l.entries);
}
