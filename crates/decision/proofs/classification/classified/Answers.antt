use Rattle.std.proofs.Common.{refl, sym}
use Rattle.decision.proofs.Unclassified.{unclassified_passes}
use Rattle.decision.proofs.classification.classified.Goals as goal

pub returns-then-is_unclassified : goal.returns-then-is_unclassified
returns-then-is_unclassified c = λ p h.
    let bare = c.if-is_unclassified.ensures p h refl in
    sym (unclassified_passes c.args.image.now.state c.args.acee.now p c.args.asked bare.0 bare.1.0 bare.1.1)
