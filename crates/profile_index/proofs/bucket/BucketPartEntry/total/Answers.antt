use Rattle.std.proofs.Common.{length, refl, ap, arith}
use Rattle.pages.proofs.Seams.{length_up_to}
use Rattle.profile_index.proofs.bucket.BucketPartEntry.total.Goals as goal

pub overflow_add-total : goal.overflow_add-total
overflow_add-total g c =
    let up_to = length_up_to (λ bucket. bucket) c.args.parts.now c.loop-bucket.bucket-index 0 _ c.bucket-item.result c.bucket-item.is c.loop-bucket-test.true refl in
    omega (arith, up_to, c.loop-bucket.invariant, ap length c.bucket.view_is, c.bucket.invariant.counted, c.requires)
