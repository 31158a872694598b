use Rattle.std.proofs.Common.{◌≤◌, ◌-◌, ◌^◌}
use Rattle.command_history.specs.Events.{Extends}
use Rattle.racf_workers.proofs.DeckWalk.{DeckWalk}
use Rattle.racf_workers.proofs.decks.run.Given as goal

abbrev pub invariant-item : goal.invariant-item
invariant-item g l =
    record {
      walk : DeckWalk g.J.Naming.base l.fn.issuing l.fn.caller.events l.caller.events l.fn.pass l.pass l.fn.lines.left l.lines 0 l.state (g.K.Sink.taken l.fn.sink) (g.K.Sink.taken l.sink) l.replies;
      most : l.lines.passed ≤ 2 ^ 28;
      counted : l.number ≤ l.lines.passed;
      later : Extends l.fn.caller.events l.caller.events;
      source_faults : l.fn.lines.faults ≤ l.lines.faults;
      sink_faults : g.K.Sink.faults l.fn.sink ≤ g.K.Sink.faults l.sink;
    }

abbrev pub decreases-item : goal.decreases-item
decreases-item g l = 2 ^ 28 - l.lines.passed
