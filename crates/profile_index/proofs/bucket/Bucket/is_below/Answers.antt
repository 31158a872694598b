use Rattle.std.proofs.Common.{◌-◌, length, map, subst, slice_get}
use Rattle.profile_index.specs.Buckets.{key_of, EndsWith}
use Rattle.profile_index.proofs.BucketLaws.{ends-below}
use Rattle.profile_index.proofs.bucket.Bucket.is_below.Goals as goal

pub returns : goal.returns
returns g c =
    let key = key_of {T = g.row.T.Denot} in
    let ends = subst (λ xs. EndsWith xs c.self.inside.begin) c.self.view_is c.self.invariant.ends in
    ends-below (slice_get (map key c.args.self.now) (length c.args.self.now - 1)) c.self.inside.begin c.args.key.now c.begin-begin.result ends c.begin-begin.ensures.bytes c.begin-begin.ensures.begin c.if-self-begin.false
