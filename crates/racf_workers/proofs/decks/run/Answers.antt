use Rattle.std.proofs.Common.{arith, refl, sym, ◌∙◌, ap}
use Rattle.racf_outside.specs.Causes.{Rose}
use Rattle.racf_outside.proofs.Rises.{Rose-later}
use Rattle.command_history.proofs.Extensions.{extends_trans}
use Rattle.statements.specs.declared.stopping.Stop.TheVariants.{NoMemory}
use Rattle.statements.proofs.Ending.{ends_later}
use Rattle.statements.proofs.Walk.{passed_none}
use Rattle.racf_workers.specs.Giving.{Giving}
use Rattle.racf_workers.proofs.FileWalk.{same_events}
use Rattle.racf_workers.proofs.DeckLaws.{stays_marked}
use Rattle.racf_workers.proofs.DeckWalk.{begun, settles, goes_on, works_few, acknowledged, stopped, cut, unworked, told_failed}
use Rattle.racf_workers.proofs.decks.run.Goals as goal

pub item-init : goal.item-init
item-init g c =
    record {
      walk = begun g.J.Naming.base c.args.issuing c.args.caller.now.events c.args.pass.now c.args.lines.now c.new-state.result _ c.new-replies.result c.requires.begins c.new-state.ensures c.new-replies.ensures;
      most = passed_none c.args.lines.now c.requires.begins;
      counted = omega arith;
      later = same_events c.args.caller.now.events;
      source_faults = omega arith;
      sink_faults = omega arith;
    }

-- no statement came
pub returns-in-Ok-Err-clause-gives : goal.returns-in-Ok-Err-clause-gives
returns-in-Ok-Err-clause-gives g c =
    let base = g.J.Naming.base in
    stopped base c.args.issuing c.args.caller.now.events c.item.caller.events c.args.pass.now c.item.pass
    (Rose c.args.lines.now.faults c.next_statement.new.lines.faults) (Rose (g.K.Sink.faults c.args.sink.now) (g.K.Sink.faults c.end.new.sink))
    c.args.lines.now.left c.item.caller.events c.item.lines c.next_statement.new.lines 0 c.item.state _ _ _ c.next_statement.new.replies
    (settles base c.args.issuing c.args.caller.now.events c.item.caller.events c.args.pass.now c.item.pass c.args.lines.now.left c.item.lines 0 c.item.state _ _ _ c.item.replies c.next_statement.new.replies c.item.invariant.walk c.in-Ok-Err.ensures.settled)
    (omega arith) refl c.in-Ok-Err.stop c.end.result (rw c.in-Ok-Err.field-0-is at c.in-Ok-Err.ensures.item) c.in-Ok-Err.ensures.limit
    (Rose-later _ _ _ c.item.invariant.source_faults)
    (ends_later _ _ _ c.in-Ok-Err.stop c.item.state.has_failed c.item.state.has_refused c.end.result c.next_statement.new.replies _ _ (omega (arith, c.item.invariant.sink_faults, c.next_statement.ensures.cause.no_fewer)) c.end.ensures.ended)

pub returns-in-Ok-Err-clause-disk_fault : goal.returns-in-Ok-Err-clause-disk_fault
returns-in-Ok-Err-clause-disk_fault g c = λ is. c.item.invariant.walk.failed (c.end.ensures.disk_fault is)

-- what is gathered couldn't be written before the source is read
pub returns-in-Err-clause-gives : goal.returns-in-Err-clause-gives
returns-in-Err-clause-gives g c =
    cut g.J.Naming.base c.args.issuing c.args.caller.now.events c.item.caller.events c.args.pass.now c.item.pass
    (Rose c.args.lines.now.faults c.next_statement.new.lines.faults) (Rose (g.K.Sink.faults c.args.sink.now) (g.K.Sink.faults c.next_statement.new.sink))
    c.args.lines.now.left c.item.caller.events c.item.lines c.next_statement.new.lines 0 c.item.state _ _ _ c.item.replies
    c.item.invariant.walk (omega arith) refl (Rose-later _ _ _ c.item.invariant.sink_faults c.in-Err.ensures.cause.cause) c.unless_failed.result c.has_failed.result c.in-Err.ensures.front c.unless_failed.ensures c.has_failed.ensures

pub returns-in-Err-clause-disk_fault : goal.returns-in-Err-clause-disk_fault
returns-in-Err-clause-disk_fault g c =
    λ is. c.item.invariant.walk.failed (told_failed c.unless_failed.result c.has_failed.result c.item.state.has_failed c.unless_failed.ensures c.has_failed.ensures is)

-- memory ran out
pub returns-in-Err-work-clause-gives : goal.returns-in-Err-work-clause-gives
returns-in-Err-work-clause-gives g c =
    let base = g.J.Naming.base in
    unworked base c.args.issuing c.args.caller.now.events c.item.caller.events c.work.new.caller.events c.args.pass.now c.item.pass c.work.new.pass
    (Rose c.args.lines.now.faults c.next_statement.new.lines.faults) (Rose (g.K.Sink.faults c.args.sink.now) (g.K.Sink.faults c.end-in-Err-work.new.sink))
    c.args.lines.now.left c.item.lines c.next_statement.new.lines c.item.state c.work.new.state _ _ _ c.next_statement.new.replies c.work.new.replies c.end-in-Err-work.result
    (settles base c.args.issuing c.args.caller.now.events c.item.caller.events c.args.pass.now c.item.pass c.args.lines.now.left c.item.lines 0 c.item.state _ _ _ c.item.replies c.next_statement.new.replies c.item.invariant.walk c.in-Ok-Ok.ensures.settled)
    c.in-Err-work.ensures.kept c.work.ensures.later
    (ends_later _ _ _ NoMemory c.work.new.state.has_failed c.work.new.state.has_refused c.end-in-Err-work.result c.work.new.replies _ _ (omega (arith, c.item.invariant.sink_faults, c.next_statement.ensures.cause.no_fewer)) c.end-in-Err-work.ensures.ended)

pub returns-in-Err-work-clause-disk_fault : goal.returns-in-Err-work-clause-disk_fault
returns-in-Err-work-clause-disk_fault g c =
    λ is.
    stays_marked c.item.caller.events c.work.new.caller.events c.work.ensures.later
    (c.item.invariant.walk.failed (ap (λ (x : Giving). x.has_failed) (sym c.in-Err-work.ensures.kept.state_is) ∙ c.end-in-Err-work.ensures.disk_fault is))

pub item-preserved : goal.item-preserved
item-preserved g c =
    let base = g.J.Naming.base in
    let takes = rw c.in-Ok-Ok.field-0-is at c.in-Ok-Ok.ensures.item in
    let some = takes.1.some in
    let passed = takes.1.counted in
    record {
      walk =
          acknowledged base c.args.issuing c.args.caller.now.events c.item.caller.events c.work.new.caller.events c.args.pass.now c.item.pass c.work.new.pass c.args.lines.now.left c.in-Ok-Ok.item takes.0 c.item.lines c.next_statement.new.lines c.item.state c.work.new.state _ _ _ c.next_statement.new.replies c.work.new.replies c.acknowledge.new.replies c.in-Ok.accepted
          (settles base c.args.issuing c.args.caller.now.events c.item.caller.events c.args.pass.now c.item.pass c.args.lines.now.left c.item.lines 0 c.item.state _ _ _ c.item.replies c.next_statement.new.replies c.item.invariant.walk c.in-Ok-Ok.ensures.settled)
          takes.1 c.work.ensures.later c.in-Ok.ensures.works c.in-Ok.ensures.accepted c.in-Ok-acknowledge.ensures.settled;
      most = c.in-Ok-Ok.ensures.limit;
      counted = omega (arith, some, passed, c.item.invariant.counted);
      later = extends_trans _ _ _ c.item.invariant.later c.work.ensures.later;
      source_faults = omega (arith, c.item.invariant.source_faults, c.next_statement.ensures.faults);
      sink_faults = omega (arith, c.item.invariant.sink_faults, c.next_statement.ensures.cause.no_fewer, c.acknowledge.ensures.cause.no_fewer);
    }

-- a reply couldn't be written
pub returns-in-Err-acknowledge-clause-gives : goal.returns-in-Err-acknowledge-clause-gives
returns-in-Err-acknowledge-clause-gives g c =
    let base = g.J.Naming.base in
    let takes = rw c.in-Ok-Ok.field-0-is at c.in-Ok-Ok.ensures.item in
    cut base c.args.issuing c.args.caller.now.events c.work.new.caller.events c.args.pass.now c.work.new.pass
    (Rose c.args.lines.now.faults c.next_statement.new.lines.faults) (Rose (g.K.Sink.faults c.args.sink.now) (g.K.Sink.faults c.acknowledge.new.sink))
    c.args.lines.now.left c.work.new.caller.events c.next_statement.new.lines c.next_statement.new.lines 1 c.work.new.state _ _ _ c.work.new.replies
    (goes_on base c.args.issuing c.args.caller.now.events c.item.caller.events c.args.pass.now c.item.pass c.args.lines.now.left c.in-Ok-Ok.item takes.0 c.work.new.caller.events c.work.new.pass c.item.lines c.next_statement.new.lines 1 c.item.state c.work.new.state _ _ c.next_statement.new.replies c.work.new.replies
    (settles base c.args.issuing c.args.caller.now.events c.item.caller.events c.args.pass.now c.item.pass c.args.lines.now.left c.item.lines 0 c.item.state _ _ _ c.item.replies c.next_statement.new.replies c.item.invariant.walk c.in-Ok-Ok.ensures.settled)
    takes.1 c.work.ensures.later c.in-Ok.ensures.works
    (works_few base c.args.issuing c.args.caller.now.events c.item.caller.events c.args.pass.now c.item.pass c.args.lines.now.left c.in-Ok-Ok.item c.work.new.caller.events c.work.new.pass c.item.state c.work.new.state c.next_statement.new.replies c.work.new.replies c.in-Ok.ensures.works))
    (omega arith) refl (Rose-later _ _ _ (omega (arith, c.item.invariant.sink_faults, c.next_statement.ensures.cause.no_fewer)) c.in-Err-acknowledge.ensures.cause.cause)
    c.unless_failed-in-Err-acknowledge.result c.has_failed-in-Err-acknowledge.result c.in-Err-acknowledge.ensures.front c.unless_failed-in-Err-acknowledge.ensures c.has_failed-in-Err-acknowledge.ensures

pub returns-in-Err-acknowledge-clause-disk_fault : goal.returns-in-Err-acknowledge-clause-disk_fault
returns-in-Err-acknowledge-clause-disk_fault g c =
    let base = g.J.Naming.base in
    let takes = rw c.in-Ok-Ok.field-0-is at c.in-Ok-Ok.ensures.item in
    let walk =
    goes_on base c.args.issuing c.args.caller.now.events c.item.caller.events c.args.pass.now c.item.pass c.args.lines.now.left c.in-Ok-Ok.item takes.0 c.work.new.caller.events c.work.new.pass c.item.lines c.next_statement.new.lines 1 c.item.state c.work.new.state _ _ c.next_statement.new.replies c.work.new.replies
    (settles base c.args.issuing c.args.caller.now.events c.item.caller.events c.args.pass.now c.item.pass c.args.lines.now.left c.item.lines 0 c.item.state _ _ _ c.item.replies c.next_statement.new.replies c.item.invariant.walk c.in-Ok-Ok.ensures.settled)
    takes.1 c.work.ensures.later c.in-Ok.ensures.works
    (works_few base c.args.issuing c.args.caller.now.events c.item.caller.events c.args.pass.now c.item.pass c.args.lines.now.left c.in-Ok-Ok.item c.work.new.caller.events c.work.new.pass c.item.state c.work.new.state c.next_statement.new.replies c.work.new.replies c.in-Ok.ensures.works) in
    λ is. walk.failed (told_failed c.unless_failed-in-Err-acknowledge.result c.has_failed-in-Err-acknowledge.result c.work.new.state.has_failed c.unless_failed-in-Err-acknowledge.ensures c.has_failed-in-Err-acknowledge.ensures is)
