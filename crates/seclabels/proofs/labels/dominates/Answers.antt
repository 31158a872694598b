-- The level is high enough, so the categories decide.
use Rattle.seclabels.proofs.Containing.{contains-relation}
use Rattle.seclabels.proofs.labels.dominates.Goals as goal

pub returns-then-other-label-clause-relation : goal.returns-then-other-label-clause-relation
returns-then-other-label-clause-relation c = rw c.contains.ensures (contains-relation c.args.label.now c.args.other.now c.if-other-label.true)
