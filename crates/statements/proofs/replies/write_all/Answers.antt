use Rattle.std.proofs.Common.{ℕ, arith, length-take, length-drop}
use Rattle.statements.proofs.Pieces.{written_more}
use Rattle.statements.proofs.replies.write_all.Goals as goal

pub loop-at-preserved : goal.loop-at-preserved
loop-at-preserved g c =
    record {
      within = omega (arith, c.in_ok-at.ensures.bound, c.loop-at.invariant.within, length-take {A = ℕ}, length-drop {A = ℕ});
      written = written_more _ _ _ c.args.bytes.now c.loop-at.at c.in_ok-at.field-0 c.loop-at.invariant.written c.in_ok-at.ensures.bytes;
      faults = omega (arith, c.in_ok-at.ensures.cause.no_fewer, c.loop-at.invariant.faults);
    }
