use Rattle.std.proofs.Common.{◌+◌, ◌-◌, ◌/◌, ◌∙◌, sym, arith}
use Rattle.dataspace.proofs.RowLaws.{before-earlier, behind-later}
use Rattle.dataspace.proofs.rows.first_not_before.Goals as goal

pub loop-low-preserved-then-is_before : goal.loop-low-preserved-then-is_before
loop-low-preserved-then-is_before c = record {
  middle = omega arith;
  within = c.loop-low.invariant.within;
  before = λ row less. before-earlier c.args.ends.now c.args.spot c.requires row (c.loop-low.low + (c.loop-low.high - c.loop-low.low) / 2) (omega arith) (omega arith) (sym c.is_before.ensures ∙ c.if-is_before.true);
  behind = c.loop-low.invariant.behind;
}

pub loop-low-preserved : goal.loop-low-preserved
loop-low-preserved c = record {
  middle = omega arith;
  within = omega arith;
  before = c.loop-low.invariant.before;
  behind = λ row above below. behind-later c.args.ends.now c.args.spot c.requires (c.loop-low.low + (c.loop-low.high - c.loop-low.low) / 2) row above below (sym c.is_before.ensures ∙ c.if-is_before.false);
}
