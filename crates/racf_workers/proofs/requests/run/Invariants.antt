use Rattle.std.proofs.Common.{◌≤◌, ◌-◌, ◌^◌}
use Rattle.command_history.specs.Events.{Extends}
use Rattle.racf_workers.proofs.FileWalk.{FileWalk}
use Rattle.racf_workers.proofs.requests.run.Given as goal

abbrev pub invariant-line : goal.invariant-line
invariant-line g l =
    record {
      walk : FileWalk g.J.Naming.base l.fn.caller.events l.caller.events l.fn.lines.left l.lines l.state (g.K.Sink.taken l.fn.sink) (g.K.Sink.taken l.sink) l.replies;
      most : l.lines.passed ≤ 2 ^ 28;
      counted : l.number ≤ l.lines.passed;
      later : Extends l.fn.caller.events l.caller.events;
      source_faults : l.fn.lines.faults ≤ l.lines.faults;
      sink_faults : g.K.Sink.faults l.fn.sink ≤ g.K.Sink.faults l.sink;
    }

abbrev pub decreases-line : goal.decreases-line
decreases-line g l = 2 ^ 28 - l.lines.passed
