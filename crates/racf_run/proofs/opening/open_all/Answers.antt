use Rattle.std.proofs.Common.{map, string_bytes, vec_len, arith}
use Rattle.std.proofs.lemmas.List.{length-map}
use Rattle.racf_run.proofs.OpeningLaws.{stopped_few, stopped_open, HasUndone-of}
use Rattle.racf_run.proofs.opening.open_all.Goals as goal

pub return_files-requires-clause-few : goal.return_files-requires-clause-few
return_files-requires-clause-few g c =
    let few = stopped_few g.F.Shelf.source_gives g.F.Shelf.sink_gives g.F.Shelf.take_back_gives g.F.Shelf.give_back_gives g.F.In.Source.left g.F.In.Source.faults g.F.Out.Sink.taken g.F.Out.Sink.faults g.F.Shelf.tells g.F.Shelf.input g.F.Shelf.output g.F.Shelf.is_open g.F.Shelf.source_faults g.F.Shelf.sink_faults c.in-Err.why (map string_bytes c.args.names.now) c.open_files.new.files.items c.args.shelf.now c.open_files.new.shelf c.in-Err.ensures.stopped in
    omega (arith, c.open_files.new.files.ok.0, length-map c.args.names.now string_bytes)

pub return_files-requires-clause-open : goal.return_files-requires-clause-open
return_files-requires-clause-open g c =
    stopped_open g.F.Shelf.source_gives g.F.Shelf.sink_gives g.F.Shelf.take_back_gives g.F.Shelf.give_back_gives g.F.In.Source.left g.F.In.Source.faults g.F.Out.Sink.taken g.F.Out.Sink.faults g.F.Shelf.tells g.F.Shelf.input g.F.Shelf.output g.F.Shelf.is_open g.F.Shelf.source_faults g.F.Shelf.sink_faults c.in-Err.why (map string_bytes c.args.names.now) c.open_files.new.files.items (vec_len c.open_files.new.files) c.args.shelf.now c.open_files.new.shelf c.open_files.new.files.ok.0 c.in-Err.ensures.stopped

pub returns-in-Err-clause-undone : goal.returns-in-Err-clause-undone
returns-in-Err-clause-undone g c =
    HasUndone-of g.F.Shelf.source_gives g.F.Shelf.sink_gives g.F.Shelf.take_back_gives g.F.Shelf.give_back_gives g.F.In.Source.left g.F.In.Source.faults g.F.Out.Sink.taken g.F.Out.Sink.faults g.F.Shelf.tells g.F.Shelf.input g.F.Shelf.output g.F.Shelf.is_open g.F.Shelf.source_faults g.F.Shelf.sink_faults c.in-Err.why (map string_bytes c.args.names.now) c.open_files.new.files.items (vec_len c.open_files.new.files) c.args.shelf.now c.open_files.new.shelf c.return_files.new.shelf
    c.open_files.new.files.ok.0 c.in-Err.ensures.stopped c.return_files.ensures
