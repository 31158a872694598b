use Rattle.std.proofs.Common.{length, refl, arith}
use Rattle.access_lists.proofs.StartLaws.{begun}
use Rattle.access_lists.proofs.places.starts_of.Goals as goal

pub loop-place-init : goal.loop-place-init
loop-place-init c = (refl, λ slot below. (begun 2048 c.at_most-starts.result (length c.args.groups.now) c.at_most-starts.ensures slot below, λ k none h. absurd (omega (arith, none))))
