use Rattle.std.proofs.Common.{◌≡◌, ◌≤◌, ◌-◌, ◌^◌}
use Rattle.desk_rules.specs.Position.{Position}
use Rattle.racf_ask.proofs.AskWalk.{AskWalk}
use Rattle.racf_ask.proofs.asking.run.Given as goal

abbrev pub invariant-line : goal.invariant-line
invariant-line g l =
    record {
      walk : (base : Position) → base.image ≡ l.fn.image → AskWalk l.fn.numbered base l.fn.lines.left l.lines l.state (g.O.Sink.taken l.fn.sink) (g.O.Sink.taken l.sink) l.replies;
      most : l.lines.passed ≤ 2 ^ 28;
      counted : l.state.lines ≤ l.lines.passed;
      source_faults : l.fn.lines.faults ≤ l.lines.faults;
      sink_faults : g.O.Sink.faults l.fn.sink ≤ g.O.Sink.faults l.sink;
    }

abbrev pub decreases-line : goal.decreases-line
decreases-line g l = 2 ^ 28 - l.lines.passed
