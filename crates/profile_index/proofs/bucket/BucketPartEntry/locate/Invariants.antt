use Rattle.std.proofs.Common.{◌≡◌, ◌+◌, length, take}
use Rattle.std.specs.List.{flat_map}
use Rattle.profile_index.proofs.bucket.BucketPartEntry.locate.Given as goal

abbrev pub invariant-loop-k : goal.invariant-loop-k
invariant-loop-k g l = length (flat_map (λ bucket. bucket) (take l.k l.parts)) + l.rest ≡ l.place
