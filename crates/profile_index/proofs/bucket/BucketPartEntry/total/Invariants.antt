use Rattle.std.proofs.Common.{◌≡◌, length, take}
use Rattle.std.specs.List.{flat_map}
use Rattle.profile_index.proofs.bucket.BucketPartEntry.total.Given as goal

abbrev pub invariant-loop-bucket : goal.invariant-loop-bucket
invariant-loop-bucket g l = l.total ≡ length (flat_map (λ bucket. bucket) (take l.bucket-index l.parts))
