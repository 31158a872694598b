use Rattle.std.proofs.Common.{◌∙◌}
use Rattle.database_image.proofs.Sets.{one_more}
use Rattle.database_image.proofs.putting.put_set.Goals as goal

pub loop-place-preserved : goal.loop-place-preserved
loop-place-preserved c = rw (c.in_ok-push.ensures.items, c.set_byte.ensures) (one_more c.loop-place.out.items c.args.set.now c.loop-place.place c.loop-place-test.true ∙ c.loop-place.invariant)
