use Rattle.std.proofs.Common.{◌≤◌, ◌<◌, length}
use Rattle.racf_run.proofs.Sent.{WroteBut}
use Rattle.racf_run.proofs.making.write_made_by.Given as goal

abbrev pub invariant-loop-count : goal.invariant-loop-count
invariant-loop-count g l =
    record {
      room : 0 < length l.block;
      walk : WroteBut l.fn.source.left l.source.left (g.O.Sink.taken l.fn.sink) (g.O.Sink.taken l.sink);
      faults : g.O.Sink.faults l.fn.sink ≤ g.O.Sink.faults l.sink;
    }

abbrev pub decreases-loop-count : goal.decreases-loop-count
decreases-loop-count g l = length l.source.left
