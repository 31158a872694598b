use Rattle.std.proofs.Common.{ap, sym, ◌∙◌}
use Rattle.racf_threads.specs.Working.{Working}
use Rattle.racf_threads.proofs.Works.{idle, gave, answered}
use Rattle.racf_threads.proofs.worker.Worker.work.Goals as goal

-- there was nothing to work
pub returns-in_default : goal.returns-in_default
returns-in_default g c =
    idle g.I.Source.left g.I.Source.faults g.K.Sink.taken g.K.Sink.faults g.J.Naming.base c.args.issuing c.args.self.now _
    (sym (ap (λ (w : Working g.row.I.Denot g.row.K.Denot). w.files) c.self.view_is) ∙ (sym c.take.ensures.value ∙ c.in_default.is))

-- a deck
pub returns-in-Some-take : goal.returns-in-Some-take
returns-in-Some-take g c =
    let is = c.self.view_is in
    gave g.I.Source.left g.I.Source.faults g.K.Sink.taken g.K.Sink.faults g.J.Naming.base c.args.issuing c.args.self.now c.leave.new.self c.in-Some-take.pass c.give-status.result.2 _ (c.in-Some.source, c.in-Some.sink) (c.give-status.result.1, c.give-status.new.sink)
    c.self.inside.caller.events c.give-status.new.caller c.give-status.result.0
    (sym (ap (λ (w : Working g.row.I.Denot g.row.K.Denot). w.pass) is) ∙ (sym c.take-2.ensures.value ∙ c.in-Some-take.is))
    (sym (ap (λ (w : Working g.row.I.Denot g.row.K.Denot). w.files) is) ∙ (sym c.take.ensures.value ∙ c.in-Some.is))
    (sym (ap (λ (w : Working g.row.I.Denot g.row.K.Denot). w.caller.events) is)) c.leave.ensures c.give-status.ensures.gives c.give-status.ensures.failed c.give-status.ensures.told c.give-status.ensures.stops

-- a request file
pub returns-in-None : goal.returns-in-None
returns-in-None g c =
    let is = c.self.view_is in
    answered g.I.Source.left g.I.Source.faults g.K.Sink.taken g.K.Sink.faults g.J.Naming.base c.args.issuing c.args.self.now c.leave-in-None.new.self _ c.self.inside.end (c.in-Some.source, c.in-Some.sink) (c.answer_requests-status.result.1, c.answer_requests-status.new.sink)
    c.self.inside.caller.events c.answer_requests-status.new.caller c.answer_requests-status.result.0
    (sym (ap (λ (w : Working g.row.I.Denot g.row.K.Denot). w.pass) is) ∙ (sym c.take-2.ensures.value ∙ c.in-None.is))
    (sym (ap (λ (w : Working g.row.I.Denot g.row.K.Denot). w.files) is) ∙ (sym c.take.ensures.value ∙ c.in-Some.is))
    (sym (ap (λ (w : Working g.row.I.Denot g.row.K.Denot). w.caller.events) is)) (sym (ap (λ (w : Working g.row.I.Denot g.row.K.Denot). w.end) is)) c.leave-in-None.ensures c.answer_requests-status.ensures.answers c.answer_requests-status.ensures.no_other.2
    (record {
      usage = c.answer_requests-status.ensures.no_other.0;
      formatted = c.answer_requests-status.ensures.no_other.1;
      undamaged = c.answer_requests-status.ensures.undamaged;
      read_fault = c.answer_requests-status.ensures.read_fault;
      write_fault = c.answer_requests-status.ensures.write_fault;
      too_long = c.answer_requests-status.ensures.too_long;
      no_fewer_reads = c.answer_requests-status.ensures.source_faults;
      no_fewer_writes = c.answer_requests-status.ensures.sink_faults;
    })
