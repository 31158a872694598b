use Rattle.std.proofs.Common.{rules, inl, inr, refl, arith}
use Rattle.racf_outside.specs.Causes.{Rose}
use Rattle.racf_run.proofs.AskLaws.{asked_to, whole_answer}
use Rattle.racf_run.proofs.TopLaws.{rose_taken}
use Rattle.racf_run.proofs.asking.ask_between.Goals as goal

-- the input couldn't be opened
pub returns-in-Err-clause-runs : goal.returns-in-Err-clause-runs
returns-in-Err-clause-runs g c =
    λ base same. inl (record { is_status = refl; failed = c.in-Err.field-0; input_asked = c.in-Err.ensures.gives; outputs = c.in-Err.ensures.outputs })

-- the output couldn't be
pub returns-in-Err-sink-clause-runs : goal.returns-in-Err-sink-clause-runs
returns-in-Err-sink-clause-runs g c =
    λ base same.
    inr (inl (record {
      is_status = refl;
      opened = c.in-Ok.source;
      failed = c.in-Err-sink.field-0;
      first = c.source.new.self;
      second = c.sink.new.self;
      input_asked = c.in-Ok.ensures.gives;
      output_asked = c.in-Err-sink.ensures.gives;
      input_back = c.take_back.ensures.gives;
      others = search rules;
    }))

-- the questions were answered
pub returns-clause-runs : goal.returns-clause-runs
returns-clause-runs g c =
    λ base same.
    let back = c.take_back-2.ensures in
    let given = c.give_back.ensures in
    let reads : Rose (g.F.In.Source.faults c.in-Ok.source) (g.F.In.Source.faults c.ask-status.result.1) → Rose (g.F.Shelf.source_faults c.args.shelf.now) (g.F.Shelf.source_faults c.give_back.new.self) =
    λ rose. let now = rose_taken _ _ _ _ c.in-Ok.ensures.new back.sources rose in grind arith in
    let writes : Rose (g.F.Out.Sink.faults c.in-Ok-sink.sink) (g.F.Out.Sink.faults c.ask-status.new.sink) → Rose (g.F.Shelf.sink_faults c.args.shelf.now) (g.F.Shelf.sink_faults c.give_back.new.self) =
    λ rose. let now = rose_taken _ _ _ _ c.in-Ok-sink.ensures.new given.sinks rose in grind arith in
    inr (inr (record {
      opened = c.in-Ok.source;
      opened_output = c.in-Ok-sink.sink;
      first = c.source.new.self;
      second = c.sink.new.self;
      third = c.take_back-2.new.self;
      worked = c.ask-status.result.1;
      worked_output = c.ask-status.new.sink;
      input_asked = c.in-Ok.ensures.gives;
      output_asked = c.in-Ok-sink.ensures.gives;
      input_back = c.take_back-2.ensures.gives;
      output_back = c.give_back.ensures.gives;
      ran = asked_to c.args.numbered base _ _ _ _ g.F.Shelf.tells c.ask-status.result.0 _ _ _ _ _ c.args.output.now _ _ (c.ask-status.ensures.ran base same) reads writes c.in-Ok.ensures.bytes c.in-Ok-sink.ensures.empty c.give_back.ensures.bytes (search rules);
    }))

pub returns-clause-whole : goal.returns-clause-whole
returns-clause-whole g c =
    λ base same is. whole_answer c.args.numbered base g.F.Shelf.tells c.ask-status.result.0 _ _ _ _ _ (c.ask-status.ensures.whole base same is) c.in-Ok.ensures.bytes c.in-Ok-sink.ensures.empty c.give_back.ensures.bytes
