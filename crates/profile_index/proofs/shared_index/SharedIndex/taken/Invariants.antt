use Rattle.std.proofs.Common.{◌≡◌, ◌-◌, ◌*◌, ◌≤◌, length, take}
use Rattle.profile_index.specs.Buckets.{keys_room}
use Rattle.profile_index.proofs.shared_index.SharedIndex.taken.Given as goal

abbrev pub invariant-loop-place : goal.invariant-loop-place
invariant-loop-place g l = record {
  within : l.place ≤ length l.self;
  sum : l.sum ≡ keys_room (take l.place l.self);
  bytes : l.sum.bytes ≤ 4294967296 * l.place;
}

abbrev pub decreases-loop-place : goal.decreases-loop-place
decreases-loop-place g l = length l.self - l.place
