use Rattle.std.proofs.Common.{◌≤◌, ◌-◌, ◌^◌}
use Rattle.statements.specs.Gathering.{Settles, IsPrompt}
use Rattle.statements.proofs.StatementLaws.{Taken}
use Rattle.statements.proofs.input.next_statement.Given as goal

abbrev pub invariant-line : goal.invariant-line
invariant-line g l =
    record {
      taken : Taken l.fn.kind l.begun l.fn.lines l.lines;
      faults : l.fn.lines.faults ≤ l.lines.faults;
      settled : Settles l.fn.replies l.replies (g.O.Sink.taken l.fn.sink) (g.O.Sink.taken l.sink);
      prompt : IsPrompt l.replies l.fn.lines l.lines;
      sink_faults : g.O.Sink.faults l.fn.sink ≤ g.O.Sink.faults l.sink;
    }

abbrev pub decreases-line : goal.decreases-line
decreases-line g l = 2 ^ 28 - l.lines.passed
