use Rattle.std.proofs.Common.{◌≡◌, ◌≤◌, ◌-◌, ◌^◌, true}
use Rattle.racf_outside.specs.Causes.{Rose}
use Rattle.desk_rules.specs.Durable.{SameIdle}
use Rattle.racf_stream.specs.Durable.{StaysAlong, LeavesInDoubt, most_left_of}
use Rattle.racf_stream.proofs.StreamWalk.{StreamWalk}
use Rattle.racf_stream.proofs.scripts.run.Given as goal

abbrev pub invariant-item : goal.invariant-item
invariant-item g l =
    record {
      walk : StreamWalk l.fn.stream.state.issuing l.fn.stream.state.position l.fn.lines.left l.lines 0 l.stream.state (g.O.Sink.taken l.fn.sink) (g.O.Sink.taken l.sink) l.replies;
      most : l.lines.passed ≤ 2 ^ 28;
      along : StaysAlong g.D.Disk.tells l.fn.stream.state.issuing l.fn.stream.state.position l.fn.lines.left (most_left_of l.stream.state) l.fn.stream.store l.stream.store;
      doubt : l.stream.state.halted ≡ true → LeavesInDoubt g.D.Disk.tells l.fn.stream.state.issuing l.fn.stream.state.position l.fn.lines.left l.stream.store l.stream.state.position;
      idle : SameIdle l.fn.stream.store l.stream.store;
      halted : l.stream.state.halted ≡ true → Rose (g.D.Disk.faults l.fn.stream.store.journal.disk) (g.D.Disk.faults l.stream.store.journal.disk);
      source_faults : l.fn.lines.faults ≤ l.lines.faults;
      sink_faults : g.O.Sink.faults l.fn.sink ≤ g.O.Sink.faults l.sink;
      disk_faults : g.D.Disk.faults l.fn.stream.store.journal.disk ≤ g.D.Disk.faults l.stream.store.journal.disk;
    }

abbrev pub decreases-item : goal.decreases-item
decreases-item g l = 2 ^ 28 - l.lines.passed
