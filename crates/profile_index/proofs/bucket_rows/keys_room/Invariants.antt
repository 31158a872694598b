use Rattle.std.proofs.Common.{◌≡◌, ◌*◌, ◌≤◌, map, take}
use Rattle.std.specs.Arc.{arc_value}
use Rattle.profile_index.specs.Buckets.{keys_room}
use Rattle.profile_index.proofs.bucket_rows.keys_room.Given as goal

abbrev pub invariant-loop-entry : goal.invariant-loop-entry
invariant-loop-entry g l = record {
  room : l.room ≡ keys_room (map arc_value (take l.entry-index l.entries));
  rows : l.room.rows ≡ l.entry-index;
  bytes : l.room.bytes ≤ 248 * l.entry-index;
}
