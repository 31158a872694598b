use Rattle.std.proofs.Common.{◌≡◌, ◌+◌, ◌*◌, ◌≤◌, take, drop}
use Rattle.profile_index.specs.Buckets.{keys_room, both}
use Rattle.profile_index.proofs.bucket_rows.BucketRows.room_with.Given as goal

abbrev pub invariant-loop-place : goal.invariant-loop-place
invariant-loop-place g l = record {
  room : both l.sum (keys_room (drop l.place (take l.end l.self))) ≡ both l.fn.room (keys_room (drop l.start (take l.end l.self)));
  rows : l.sum.rows + l.start ≡ l.fn.room.rows + l.place;
  bytes : l.sum.bytes ≤ 248 * l.sum.rows;
}
