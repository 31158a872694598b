-- The bytes are the text before zeros.
use Rattle.std.proofs.Common.{arith}
use Rattle.access_levels.proofs.Packed.{IsPadded-before_zeros}
use Rattle.access_levels.proofs.ids.Id.spelled_by.Goals as goal

pub invariant_of-result : goal.invariant_of-result
invariant_of-result c = rw c.copy_from_slice.ensures.after (IsPadded-before_zeros c.args.text.now c.requires.short (λ k. omega (arith, c.type_inv.text k)) c.requires.spelled)
