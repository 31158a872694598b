use Rattle.std.proofs.Common.{sym, ◌∙◌}
use Rattle.generic_names.proofs.WalkLaws.{covers_end-ended, covers_end-spent}
use Rattle.generic_names.proofs.covering.covers_some_end.Goals as goal

pub returns-then-from-name : goal.returns-then-from-name
returns-then-from-name c =
    sym (c.loop-at.invariant.same
    ∙ covers_end-spent c.args.kind c.args.pattern.now c.loop-at.at c.args.name.now c.loop-at.from c.if-from-name.true c.in-Refused.ensures)

pub returns : goal.returns
returns c =
    sym (c.loop-at.invariant.same
    ∙ covers_end-ended c.args.kind c.args.pattern.now c.loop-at.at c.args.name.now c.loop-at.from c.loop-at-test.false)
