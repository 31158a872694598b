use Rattle.std.proofs.Common.{arith, false, refl}
use Rattle.racf_outside.specs.Causes.{Rose}
use Rattle.racf_outside.proofs.Rises.{Rose-later}
use Rattle.command_history.proofs.Extensions.{extends_trans}
use Rattle.statements.specs.declared.stopping.Stop.TheVariants.{NoMemory}
use Rattle.statements.proofs.Walk.{passed_none}
use Rattle.statements.proofs.Ending.{ends_later}
use Rattle.racf_workers.proofs.FileWalk.{begun, same_events, settles, goes_on, passes_more, stopped, cut, unanswered}
use Rattle.racf_workers.proofs.requests.run.Goals as goal

pub line-init : goal.line-init
line-init g c =
    record {
      walk = begun g.J.Naming.base c.args.caller.now.events c.args.lines.now c.args.state.now _ c.new-replies.result c.requires.begins c.requires.new c.new-replies.ensures;
      most = passed_none c.args.lines.now c.requires.begins;
      counted = omega arith;
      later = same_events c.args.caller.now.events;
      source_faults = omega arith;
      sink_faults = omega arith;
    }

-- what is gathered couldn't be written before the source is read
pub returns-in-Err-clause-answers : goal.returns-in-Err-clause-answers
returns-in-Err-clause-answers g c =
    cut g.J.Naming.base c.args.caller.now.events c.line.caller.events c.line.caller.events
    (Rose c.args.lines.now.faults c.line.lines.faults) (Rose (g.K.Sink.faults c.args.sink.now) (g.K.Sink.faults c.write_before_read.new.sink))
    c.args.lines.now.left c.line.lines c.line.lines c.line.state _ _ _ c.line.replies
    c.line.invariant.walk (same_events c.line.caller.events) (Rose-later _ _ _ c.line.invariant.sink_faults c.in-Err.ensures.cause.cause) c.in-Err.ensures.front

-- no line came
pub returns-in-Err-next_request-clause-answers : goal.returns-in-Err-next_request-clause-answers
returns-in-Err-next_request-clause-answers g c =
    let base = g.J.Naming.base in
    stopped base c.args.caller.now.events c.line.caller.events c.line.caller.events
    (Rose c.args.lines.now.faults c.next_request.new.lines.faults) (Rose (g.K.Sink.faults c.args.sink.now) (g.K.Sink.faults c.end_run.new.sink))
    c.args.lines.now.left c.line.lines c.next_request.new.lines c.line.state _ _ _ c.write_before_read.new.replies
    (settles base c.args.caller.now.events c.line.caller.events _ c.line.lines c.line.state _ _ _ c.line.replies c.write_before_read.new.replies c.line.invariant.walk c.in-Ok.ensures.settled)
    c.has_refused.result c.has_refused.ensures refl c.in-Err-next_request.stop c.end_run.result c.in-Err-next_request.ensures.nexts c.next_request.ensures.limit
    (Rose-later _ _ _ c.line.invariant.source_faults)
    (ends_later _ _ _ c.in-Err-next_request.stop false c.has_refused.result c.end_run.result c.write_before_read.new.replies _ _ (omega (arith, c.line.invariant.sink_faults, c.write_before_read.ensures.cause.no_fewer)) c.end_run.ensures.ended)

-- what is gathered couldn't be written before a wait
pub returns-in-Err-WriteFault-clause-answers : goal.returns-in-Err-WriteFault-clause-answers
returns-in-Err-WriteFault-clause-answers g c =
    let base = g.J.Naming.base in
    let leaves = rw c.in-Err-WriteFault.field-0-is at c.in-Err-WriteFault.ensures.leaves in
    let cause = rw c.in-Err-WriteFault.field-0-is at c.in-Err-WriteFault.ensures.cause in
    cut base c.args.caller.now.events c.line.caller.events c.answer_line.new.caller.events
    (Rose c.args.lines.now.faults c.next_request.new.lines.faults) (Rose (g.K.Sink.faults c.args.sink.now) (g.K.Sink.faults c.answer_line.new.sink))
    c.args.lines.now.left c.line.lines c.next_request.new.lines c.line.state _ _ _ c.write_before_read.new.replies
    (settles base c.args.caller.now.events c.line.caller.events _ c.line.lines c.line.state _ _ _ c.line.replies c.write_before_read.new.replies c.line.invariant.walk c.in-Ok.ensures.settled)
    c.answer_line.ensures.later
    (Rose-later _ _ _ (omega (arith, c.line.invariant.sink_faults, c.write_before_read.ensures.cause.no_fewer)) cause) leaves.2

-- memory ran out
pub returns-in-Err-NoMemory-clause-answers : goal.returns-in-Err-NoMemory-clause-answers
returns-in-Err-NoMemory-clause-answers g c =
    let base = g.J.Naming.base in
    let leaves = rw c.in-Err-NoMemory.field-0-is at c.in-Err-NoMemory.ensures.leaves in
    unanswered base c.args.caller.now.events c.line.caller.events c.answer_line.new.caller.events
    (Rose c.args.lines.now.faults c.next_request.new.lines.faults) (Rose (g.K.Sink.faults c.args.sink.now) (g.K.Sink.faults c.end_run-in-Err-NoMemory.new.sink))
    c.args.lines.now.left c.line.lines c.next_request.new.lines c.line.state c.answer_line.new.state _ _ _ _ c.write_before_read.new.replies c.answer_line.new.replies
    c.has_refused-in-Err-NoMemory.result c.end_run-in-Err-NoMemory.result
    (settles base c.args.caller.now.events c.line.caller.events _ c.line.lines c.line.state _ _ _ c.line.replies c.write_before_read.new.replies c.line.invariant.walk c.in-Ok.ensures.settled)
    leaves c.answer_line.ensures.later c.has_refused-in-Err-NoMemory.ensures
    (ends_later _ _ _ NoMemory false c.has_refused-in-Err-NoMemory.result c.end_run-in-Err-NoMemory.result c.answer_line.new.replies _ _ (omega (arith, c.line.invariant.sink_faults, c.write_before_read.ensures.cause.no_fewer, c.answer_line.ensures.no_fewer)) c.end_run-in-Err-NoMemory.ensures.ended)

pub line-preserved : goal.line-preserved
line-preserved g c =
    let base = g.J.Naming.base in
    let nexts = c.in-Ok-next_request.ensures.nexts in
    let more = passes_more c.in-Ok-next_request.told c.line.lines c.next_request.new.lines nexts in
    record {
      walk =
          goes_on base c.args.caller.now.events c.line.caller.events c.answer_line.new.caller.events c.in-Ok-next_request.told c.args.lines.now.left c.line.lines c.next_request.new.lines c.line.state c.answer_line.new.state _ _ _ c.write_before_read.new.replies c.answer_line.new.replies
          (settles base c.args.caller.now.events c.line.caller.events _ c.line.lines c.line.state _ _ _ c.line.replies c.write_before_read.new.replies c.line.invariant.walk c.in-Ok.ensures.settled)
          nexts c.answer_line.ensures.later c.in-Ok-answer_line.ensures.answers;
      most = c.next_request.ensures.limit;
      counted = omega (arith, more, c.line.invariant.counted);
      later = extends_trans _ _ _ c.line.invariant.later c.answer_line.ensures.later;
      source_faults = omega (arith, c.line.invariant.source_faults, c.next_request.ensures.faults);
      sink_faults = omega (arith, c.line.invariant.sink_faults, c.write_before_read.ensures.cause.no_fewer, c.answer_line.ensures.no_fewer);
    }
