use Rattle.std.proofs.Common.{length, not, ap, arith}
use Rattle.std.proofs.lemmas.List.Sums.{prefix_len-le-length}
use Rattle.pages.specs.Rising.{reaches}
use Rattle.profile_index.specs.Buckets.{key_of}
use Rattle.profile_index.proofs.bucket.BucketKeyedPartEntry.found_by_key.Goals as goal

pub at-requires : goal.at-requires
at-requires g c =
    let size = prefix_len-le-length (λ x. not (reaches key_of c.args.key.now x)) c.args.self.now in
    omega (arith, size, c.first_by_key-place.ensures, c.if-place-self.false, c.self.invariant.counted, ap length c.self.view_is, ap length c.rows.ensures.rows)
