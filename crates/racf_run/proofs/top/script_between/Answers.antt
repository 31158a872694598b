use Rattle.std.proofs.Common.{rules, inl, inr, refl, arith}
use Rattle.racf_outside.specs.Causes.{Rose}
use Rattle.racf_run.proofs.TopLaws.{ends_new, ran_to, rose_taken}
use Rattle.racf_run.proofs.top.script_between.Goals as goal

-- the input couldn't be opened
pub returns-in-Err-clause-runs : goal.returns-in-Err-clause-runs
returns-in-Err-clause-runs g c =
    inl (record {
      is_status = refl;
      stands = ends_new g.D.Disk.tells c.args.issuing _ c.args.desk c.requires.running c.requires.settled c.is_at_rest.ensures;
      failed = c.in-Err.field-0;
      input_asked = c.in-Err.ensures.gives;
      outputs = c.in-Err.ensures.outputs;
    })

-- the output couldn't be
pub returns-in-Err-sink-clause-runs : goal.returns-in-Err-sink-clause-runs
returns-in-Err-sink-clause-runs g c =
    inr (inl (record {
      is_status = refl;
      stands = ends_new g.D.Disk.tells c.args.issuing _ c.args.desk c.requires.running c.requires.settled c.is_at_rest.ensures;
      opened = c.in-Ok.source;
      failed = c.in-Err-sink.field-0;
      first = c.source.new.self;
      second = c.sink.new.self;
      input_asked = c.in-Ok.ensures.gives;
      output_asked = c.in-Err-sink.ensures.gives;
      input_back = c.take_back.ensures.gives;
      others = search rules;
    }))

-- the stream was run
pub returns-clause-runs : goal.returns-clause-runs
returns-clause-runs g c =
    let desk = c.script-status.result.2 in
    let opened = c.in-Ok.ensures.cause in
    let between = c.in-Ok-sink.ensures in
    let back = c.take_back-2.ensures in
    let given = c.give_back.ensures in
    let reads : Rose (g.F.In.Source.faults c.in-Ok.source) (g.F.In.Source.faults c.script-status.result.1) → Rose (g.F.Shelf.source_faults c.args.shelf.now) (g.F.Shelf.source_faults c.give_back.new.self) =
    λ rose. let now = rose_taken _ _ _ _ c.in-Ok.ensures.new back.sources rose in grind arith in
    let writes : Rose (g.F.Out.Sink.faults c.in-Ok-sink.sink) (g.F.Out.Sink.faults c.script-status.new.sink) → Rose (g.F.Shelf.sink_faults c.args.shelf.now) (g.F.Shelf.sink_faults c.give_back.new.self) =
    λ rose. let now = rose_taken _ _ _ _ c.in-Ok-sink.ensures.new given.sinks rose in grind arith in
    inr (inr (record {
      opened = c.in-Ok.source;
      opened_output = c.in-Ok-sink.sink;
      first = c.source.new.self;
      second = c.sink.new.self;
      input_asked = c.in-Ok.ensures.gives;
      output_asked = c.in-Ok-sink.ensures.gives;
      third = c.take_back-2.new.self;
      worked = c.script-status.result.1;
      worked_output = c.script-status.new.sink;
      input_back = c.take_back-2.ensures.gives;
      output_back = c.give_back.ensures.gives;
      ran = ran_to g.D.Disk.tells c.args.issuing c.args.desk.store desk c.args.desk.position _ _ _ _ g.F.Shelf.tells c.script-status.result.0 _ _ _ _ _ c.args.output.now _ _ c.script-status.ensures.ran c.script-status.ensures.leaves c.script-status.ensures.in_doubt c.script-status.ensures.moments reads writes c.in-Ok.ensures.bytes c.in-Ok-sink.ensures.empty c.give_back.ensures.bytes (search rules);
    }))
