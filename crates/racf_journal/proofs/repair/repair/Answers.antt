-- The cut, and then the gate.
use Rattle.std.proofs.Common.{take}
use Rattle.racf_outside.proofs.Runs.{StaysIn-joined}
use Rattle.racf_journal.proofs.Repairs.{HoldsEnd-then}
use Rattle.racf_journal.proofs.repair.repair.Goals as goal

pub close_gate-requires : goal.close_gate-requires
close_gate-requires g c = record { held = HoldsEnd-then _ _ c.args.gate c.args.end.now (take 1 c.args.end.now) c.in_ok-cut_behind.ensures.done c.requires.held }

pub returns-in_err-close_gate-clause-moments : goal.returns-in_err-close_gate-clause-moments
returns-in_err-close_gate-clause-moments g c base at holds =
    StaysIn-joined (c.cut_behind.ensures.moments base at holds) (c.close_gate.ensures.moments base at (c.in_ok-cut_behind.ensures.done base at holds))

pub returns-clause-moments : goal.returns-clause-moments
returns-clause-moments g c base at holds =
    StaysIn-joined (c.cut_behind.ensures.moments base at holds) (c.close_gate.ensures.moments base at (c.in_ok-cut_behind.ensures.done base at holds))

pub returns-clause-done : goal.returns-clause-done
returns-clause-done g c base at holds = c.in_ok-close_gate.ensures.done base at (c.in_ok-cut_behind.ensures.done base at holds)
