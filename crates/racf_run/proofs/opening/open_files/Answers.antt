use Rattle.std.proofs.Common.{◌+◌, [], List, map, string_bytes, take, sym, ◌∙◌, ap, subst, arith}
use Rattle.std.proofs.lemmas.List.{length-map, nil_from_length}
use Rattle.std.proofs.lemmas.Result.{err_from_is_err_and}
use Rattle.racf_run.specs.Opening.{HasOpened, output_name}
use Rattle.racf_run.proofs.OpeningLaws.{output_at, name_at, HasOpened-none, HasOpened-one, HasOpened-more, HasStopped-at}
use Rattle.racf_run.proofs.opening.open_files.Goals as goal

pub open_file-requires : goal.open_file-requires
open_file-requires g c =
    c.as_str-output.ensures.value
    ∙ output_at string_bytes c.args.names.now c.args.outputs.now c.loop-place.place c.index-names-place.result c.index-outputs-place.result c.requires.outputs (omega arith) c.index-names-place.is c.index-outputs-place.is
    ∙ ap output_name (sym c.as_str-name.ensures.value)

pub loop-place-init : goal.loop-place-init
loop-place-init g c = record {
  count = c.requires.none;
  room = c.requires.room;
  opened =
      subst (λ (fs : List (g.row.F-In.Denot × g.row.F-Out.Denot)). HasOpened g.F.Shelf.source_gives g.F.Shelf.sink_gives g.F.Shelf.take_back_gives g.F.Shelf.give_back_gives g.F.In.Source.left g.F.In.Source.faults g.F.Out.Sink.taken g.F.Out.Sink.faults g.F.Shelf.tells g.F.Shelf.input g.F.Shelf.output g.F.Shelf.is_open g.F.Shelf.source_faults g.F.Shelf.sink_faults [] fs c.args.shelf.now c.args.shelf.now)
      (sym (nil_from_length c.args.files.now.items (sym c.args.files.now.ok.0 ∙ c.requires.none)))
      (HasOpened-none g.F.Shelf.source_gives g.F.Shelf.sink_gives g.F.Shelf.take_back_gives g.F.Shelf.give_back_gives g.F.In.Source.left g.F.In.Source.faults g.F.Out.Sink.taken g.F.Out.Sink.faults g.F.Shelf.tells g.F.Shelf.input g.F.Shelf.output g.F.Shelf.is_open g.F.Shelf.source_faults g.F.Shelf.sink_faults c.args.shelf.now);
}

pub returns-in_err-open_file-clause-stopped : goal.returns-in_err-open_file-clause-stopped
returns-in_err-open_file-clause-stopped g c =
    let p = err_from_is_err_and c.from_residual.result c.from_residual.ensures.1 in
    let here = c.in_err-open_file.ensures in
    rw (p.1, p.2)
    (HasStopped-at g.F.Shelf.source_gives g.F.Shelf.sink_gives g.F.Shelf.take_back_gives g.F.Shelf.give_back_gives g.F.In.Source.left g.F.In.Source.faults g.F.Out.Sink.taken g.F.Out.Sink.faults
    g.F.Shelf.tells g.F.Shelf.input g.F.Shelf.output g.F.Shelf.is_open g.F.Shelf.source_faults g.F.Shelf.sink_faults
    c.in_err-open_file.field-0.0 (map string_bytes c.args.names.now) c.loop-place.place c.as_str-name.result.now c.loop-place.files.items c.args.shelf.now c.loop-place.shelf c.open_file.new.shelf
    (omega (arith, length-map c.args.names.now string_bytes)) (c.as_str-name.ensures.value ∙ name_at string_bytes c.args.names.now c.loop-place.place c.index-names-place.result (omega arith) c.index-names-place.is)
    c.loop-place.invariant.opened here.unopened here.not_open here.outputs here.inputs here.source_faults here.sink_faults here.read_fault here.write_fault)

pub loop-place-preserved : goal.loop-place-preserved
loop-place-preserved g c =
    let here = c.in_ok-open_file.ensures in
    let name = c.as_str-name.result.now in
    record {
      count = omega (arith, c.push_reserved.ensures.len, c.loop-place.invariant.count);
      room = omega (arith, c.push_reserved.ensures.capacity, c.loop-place.invariant.room);
      opened =
          subst (λ (fs : List (g.row.F-In.Denot × g.row.F-Out.Denot)). HasOpened g.F.Shelf.source_gives g.F.Shelf.sink_gives g.F.Shelf.take_back_gives g.F.Shelf.give_back_gives g.F.In.Source.left g.F.In.Source.faults g.F.Out.Sink.taken g.F.Out.Sink.faults g.F.Shelf.tells g.F.Shelf.input g.F.Shelf.output g.F.Shelf.is_open g.F.Shelf.source_faults g.F.Shelf.sink_faults (take (c.loop-place.place + 1) (map string_bytes c.args.names.now)) fs c.args.shelf.now c.open_file.new.shelf)
          (sym c.push_reserved.ensures.items)
          (HasOpened-more g.F.Shelf.source_gives g.F.Shelf.sink_gives g.F.Shelf.take_back_gives g.F.Shelf.give_back_gives g.F.In.Source.left g.F.In.Source.faults g.F.Out.Sink.taken g.F.Out.Sink.faults g.F.Shelf.tells g.F.Shelf.input g.F.Shelf.output g.F.Shelf.is_open g.F.Shelf.source_faults g.F.Shelf.sink_faults
          (map string_bytes c.args.names.now) c.loop-place.place name c.in_ok-open_file.field-0 c.loop-place.files.items c.args.shelf.now c.loop-place.shelf c.open_file.new.shelf
          (omega (arith, length-map c.args.names.now string_bytes)) (c.as_str-name.ensures.value ∙ name_at string_bytes c.args.names.now c.loop-place.place c.index-names-place.result (omega arith) c.index-names-place.is)
          c.loop-place.invariant.opened
          (HasOpened-one g.F.Shelf.source_gives g.F.Shelf.sink_gives g.F.Shelf.take_back_gives g.F.Shelf.give_back_gives g.F.In.Source.left g.F.In.Source.faults g.F.Out.Sink.taken g.F.Out.Sink.faults g.F.Shelf.tells g.F.Shelf.input g.F.Shelf.output g.F.Shelf.is_open g.F.Shelf.source_faults g.F.Shelf.sink_faults name c.in_ok-open_file.field-0 c.loop-place.shelf c.open_file.new.shelf here.opened here.new here.«open» here.outputs here.inputs here.source_faults here.sink_faults));
    }
