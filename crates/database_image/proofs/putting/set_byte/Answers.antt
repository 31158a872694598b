use Rattle.database_image.proofs.Sets.{byte-grown}
use Rattle.database_image.proofs.putting.set_byte.Goals as goal

pub loop-n-preserved : goal.loop-n-preserved
loop-n-preserved c = byte-grown c.loop-n.byte c.bit_of-byte.result c.args.set.now c.args.place c.loop-n.n c.loop-n.invariant c.bit_of-byte.ensures
