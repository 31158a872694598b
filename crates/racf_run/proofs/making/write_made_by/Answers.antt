use Rattle.std.proofs.Common.{arith}
use Rattle.racf_run.proofs.Sent.{begun, to_front, more, cut, same_known}
use Rattle.racf_run.proofs.making.write_made_by.Goals as goal

pub loop-count-init : goal.loop-count-init
loop-count-init g c = record { room = c.requires.room; walk = begun _ _; faults = omega arith }

pub returns-in-Err-clause-wrote : goal.returns-in-Err-clause-wrote
returns-in-Err-clause-wrote g c = to_front c.args.source.now.left c.loop-count.source.left _ _ c.loop-count.invariant.walk

pub loop-count-preserved : goal.loop-count-preserved
loop-count-preserved g c = record {
  room = omega (arith, c.in-Ok.ensures.bound, c.in-Ok.count-test);
  walk =
      more c.args.source.now.left c.loop-count.source.left _ _ c.loop-count.invariant.walk _ c.read.new.self.left _
      (same_known _ _ c.in-Ok.ensures.bytes) c.in-Ok-write_all.ensures.all;
  faults = omega (arith, c.loop-count.invariant.faults, c.in-Ok-write_all.ensures.cause.no_fewer);
}

pub returns-in-Err-write_all-clause-wrote : goal.returns-in-Err-write_all-clause-wrote
returns-in-Err-write_all-clause-wrote g c =
    cut c.args.source.now.left c.loop-count.source.left _ _ c.loop-count.invariant.walk _ c.read.new.self.left _
    (same_known _ _ c.in-Ok.ensures.bytes) c.in-Err-write_all.ensures.front
