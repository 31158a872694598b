use Rattle.std.proofs.Common.{ℕ, List, arith, false, sym, subst}
use Rattle.racf_outside.specs.Causes.{Rose}
use Rattle.racf_outside.proofs.Rises.{Rose-later}
use Rattle.statements.specs.declared.stopping.Stop.TheVariants.{NoMemory}
use Rattle.statements.specs.Gathering.{Settles}
use Rattle.statements.proofs.Walk.{passed_none}
use Rattle.statements.proofs.Ending.{ends_later}
use Rattle.racf_ask.proofs.AskWalk.{begun, none_came, settles, goes_on, passes_more, stopped, cut, unanswered}
use Rattle.racf_ask.proofs.asking.run.Goals as goal

pub line-init : goal.line-init
line-init g c =
    record {
      walk = λ base same. begun c.args.numbered base c.args.lines.now c.args.state.now _ c.new-replies.result c.requires.begins c.requires.new c.new-replies.ensures;
      most = passed_none c.args.lines.now c.requires.begins;
      counted = none_came c.args.state.now c.args.lines.now.passed c.requires.new;
      source_faults = omega arith;
      sink_faults = omega arith;
    }

-- what is gathered couldn't be written before the source is read
pub returns-in-Err-clause-ran : goal.returns-in-Err-clause-ran
returns-in-Err-clause-ran g c =
    λ base same.
    cut c.args.numbered base
    (Rose c.args.lines.now.faults c.line.lines.faults) (Rose (g.O.Sink.faults c.args.sink.now) (g.O.Sink.faults c.write_before_read.new.sink))
    c.args.lines.now.left c.line.lines c.line.lines c.line.state _ _ _ c.line.replies
    (c.line.invariant.walk base same) (Rose-later _ _ _ c.line.invariant.sink_faults c.in-Err.ensures.cause.cause) c.in-Err.ensures.front

-- no line came
pub returns-in-Err-next_line-clause-ran : goal.returns-in-Err-next_line-clause-ran
returns-in-Err-next_line-clause-ran g c =
    λ base same.
    stopped c.args.numbered base
    (Rose c.args.lines.now.faults c.next_line.new.lines.faults) (Rose (g.O.Sink.faults c.args.sink.now) (g.O.Sink.faults c.end_run.new.sink))
    c.args.lines.now.left c.line.lines c.next_line.new.lines c.line.state _ _ _ c.write_before_read.new.replies
    (settles c.args.numbered base _ c.line.lines c.line.state _ _ _ c.line.replies c.write_before_read.new.replies (c.line.invariant.walk base same) c.in-Ok.ensures.settled)
    c.has_refused.result c.has_refused.ensures c.in-Err-next_line.stop c.end_run.result c.in-Err-next_line.ensures.nexts c.next_line.ensures.limit
    (Rose-later _ _ _ c.line.invariant.source_faults)
    (ends_later _ _ _ c.in-Err-next_line.stop false c.has_refused.result c.end_run.result c.write_before_read.new.replies _ _ (omega (arith, c.line.invariant.sink_faults, c.write_before_read.ensures.cause.no_fewer)) c.end_run.ensures.ended)

-- memory ran out
pub returns-in-Err-answer-clause-ran : goal.returns-in-Err-answer-clause-ran
returns-in-Err-answer-clause-ran g c =
    λ base same.
    unanswered c.args.numbered base
    (Rose c.args.lines.now.faults c.next_line.new.lines.faults) (Rose (g.O.Sink.faults c.args.sink.now) (g.O.Sink.faults c.end_run-in-Err-answer.new.sink))
    c.args.lines.now.left c.line.lines c.next_line.new.lines c.line.state (g.O.Sink.taken c.args.sink.now) (g.O.Sink.taken c.write_before_read.new.sink) (g.O.Sink.taken c.end_run-in-Err-answer.new.sink) c.answer.new.replies
    (settles c.args.numbered base c.args.lines.now.left c.line.lines c.line.state (g.O.Sink.taken c.args.sink.now) (g.O.Sink.taken c.line.sink) (g.O.Sink.taken c.write_before_read.new.sink) c.line.replies c.answer.new.replies (c.line.invariant.walk base same)
    (subst (λ (rest : List ℕ). Settles c.line.replies rest (g.O.Sink.taken c.line.sink) (g.O.Sink.taken c.write_before_read.new.sink)) (sym c.in-Err-answer.ensures.err) c.in-Ok.ensures.settled))
    c.has_refused-in-Err-answer.result c.end_run-in-Err-answer.result
    (ends_later _ _ _ NoMemory false c.has_refused-in-Err-answer.result c.end_run-in-Err-answer.result c.answer.new.replies _ _ (omega (arith, c.line.invariant.sink_faults, c.write_before_read.ensures.cause.no_fewer)) c.end_run-in-Err-answer.ensures.ended)

pub line-preserved : goal.line-preserved
line-preserved g c =
    let nexts = c.in-Ok-next_line.ensures.nexts in
    let more = passes_more c.in-Ok-next_line.told c.line.lines c.next_line.new.lines nexts in
    record {
      walk =
          λ base same.
          goes_on c.args.numbered base c.args.image.now c.in-Ok-next_line.told c.args.lines.now.left c.line.lines c.next_line.new.lines c.line.state c.answer.new.self _ _ c.write_before_read.new.replies c.answer.new.replies same
          (settles c.args.numbered base _ c.line.lines c.line.state _ _ _ c.line.replies c.write_before_read.new.replies (c.line.invariant.walk base same) c.in-Ok.ensures.settled)
          nexts c.in-Ok-answer.ensures.ok;
      most = c.next_line.ensures.limit;
      counted = omega (arith, more, c.line.invariant.counted, c.in-Ok-answer.ensures.ok.lines);
      source_faults = omega (arith, c.line.invariant.source_faults, c.next_line.ensures.faults);
      sink_faults = omega (arith, c.line.invariant.sink_faults, c.write_before_read.ensures.cause.no_fewer);
    }
