use Rattle.std.proofs.Common.{◌≡◌, ◌-◌, ◌≤◌, true, false, length, take, Some}
use Rattle.std.specs.List.{list_any, slice_get}
use Rattle.pages.specs.Rising.{reaches}
use Rattle.profile_index.specs.Buckets.{key_of}
use Rattle.profile_index.proofs.bucket.BucketKeyedPartEntry.first_by_key.Given as goal

abbrev pub invariant-loop-low : goal.invariant-loop-low
invariant-loop-low g l = record {
  middle : l.low ≤ l.high;
  within : l.high ≤ length l.rows;
  none : list_any (reaches key_of l.key) (take l.low l.rows) ≡ false;
  some : (e : _) → slice_get l.rows l.high ≡ Some e → reaches key_of l.key e ≡ true;
}

abbrev pub decreases-loop-low : goal.decreases-loop-low
decreases-loop-low g l = l.high - l.low
