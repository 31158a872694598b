use Rattle.std.proofs.Common.{◌≡◌, ◌<◌, ◌≤◌, ◌+◌, [], ℕ, true, map, get_or, length, string_bytes, take, drop, vec_len, sym, ◌∙◌, ap, subst, arith}
use Rattle.std.proofs.lemmas.List.{length-map, length-take-le, take_all, take-append-drop}
use Rattle.racf_run.specs.Opening.{HasReturned, AreOpen, are_distinct, output_name}
use Rattle.racf_run.proofs.OpeningLaws.{output_at, name_in_front, popped, distinct_front, AreOpen-front, AreOpen-here, HasReturned-end, HasReturned-more}
use Rattle.racf_run.proofs.opening.return_files.Goals as goal

pub return_file-requires-clause-output : goal.return_file-requires-clause-output
return_file-requires-clause-output g c =
    let within : c.len-place.result < length c.args.names.now = omega (arith, c.len-place.ensures, c.in-Some.ensures.cases, c.loop-source.invariant.few, c.requires.few) in
    c.as_str-in-Some.ensures.value
    ∙ output_at string_bytes c.args.names.now c.args.outputs.now c.len-place.result c.index-names-place.result c.index-outputs-place.result c.requires.outputs within c.index-names-place.is c.index-outputs-place.is
    ∙ ap output_name (sym c.as_str.ensures.value)

pub return_file-requires-clause-open : goal.return_file-requires-clause-open
return_file-requires-clause-open g c =
    let all = map string_bytes c.args.names.now in
    let m = vec_len c.args.files in
    let n = vec_len c.pop.new.self in
    let few : m ≤ length all = omega (arith, length-map c.args.names.now string_bytes, c.requires.few) in
    let long = length-take-le m all few in
    let one : vec_len c.loop-source.files ≡ n + 1 = sym c.in-Some.ensures.cases in
    let name : c.as_str.result.now ≡ get_or (take m all) n [] = c.as_str.ensures.value ∙ name_in_front string_bytes c.args.names.now m n c.len-place.result c.index-names-place.result (omega (arith, c.loop-source.invariant.few)) (omega (arith, c.loop-source.invariant.few, c.requires.few)) (omega (arith, c.len-place.ensures)) c.index-names-place.is in
    ap (g.F.Shelf.is_open c.loop-source.shelf) (return_file-requires-clause-output g c)
    ∙ AreOpen-here (g.F.Shelf.is_open c.loop-source.shelf) (take m all) n c.as_str.result.now (omega (arith, c.loop-source.invariant.few)) name
    (subst (λ (k : ℕ). AreOpen (g.F.Shelf.is_open c.loop-source.shelf) (take k (take m all))) one c.loop-source.invariant.are_open)

pub loop-source-init : goal.loop-source-init
loop-source-init g c =
    let all = map string_bytes c.args.names.now in
    let m = vec_len c.args.files in
    let few : m ≤ length all = omega (arith, length-map c.args.names.now string_bytes, c.requires.few) in
    let long = length-take-le m all few in
    record {
      few = omega arith;
      rest = sym (take_all m c.args.files.items (omega (arith, c.args.files.ok.0)));
      returned = HasReturned-end g.F.Shelf.source_gives g.F.Shelf.sink_gives g.F.Shelf.take_back_gives g.F.Shelf.give_back_gives g.F.In.Source.left g.F.In.Source.faults g.F.Out.Sink.taken g.F.Out.Sink.faults g.F.Shelf.tells g.F.Shelf.input g.F.Shelf.output g.F.Shelf.is_open g.F.Shelf.source_faults g.F.Shelf.sink_faults (take m all) c.args.files.items m c.args.shelf.now (omega arith) (omega (arith, c.args.files.ok.0));
      are_open = subst (AreOpen (g.F.Shelf.is_open c.args.shelf.now)) (sym (take_all m (take m all) (omega arith))) c.requires.«open»;
    }

pub loop-source-preserved : goal.loop-source-preserved
loop-source-preserved g c =
    let all = map string_bytes c.args.names.now in
    let m = vec_len c.args.files in
    let n = vec_len c.pop.new.self in
    let few : m ≤ length all = omega (arith, length-map c.args.names.now string_bytes, c.requires.few) in
    let long = length-take-le m all few in
    let one : vec_len c.loop-source.files ≡ n + 1 = sym c.in-Some.ensures.cases in
    let below : n < m = omega (arith, c.loop-source.invariant.few) in
    let took = popped c.args.files.items c.loop-source.files.items c.pop.new.self.items (vec_len c.loop-source.files) n (c.in-Some.source, c.in-Some.sink) c.loop-source.invariant.rest c.in-Some.ensures.items one
    (omega (arith, c.loop-source.invariant.few, c.args.files.ok.0)) in
    let distinct : are_distinct (take m all) ≡ true = distinct_front (take m all) (drop m all) (ap are_distinct (take-append-drop m all) ∙ c.requires.distinct) in
    let name : c.as_str.result.now ≡ get_or (take m all) n [] = c.as_str.ensures.value ∙ name_in_front string_bytes c.args.names.now m n c.len-place.result c.index-names-place.result below (omega (arith, c.requires.few)) (omega (arith, c.len-place.ensures)) c.index-names-place.is in
    record {
      few = omega arith;
      rest = took.0;
      returned =
          HasReturned-more g.F.Shelf.source_gives g.F.Shelf.sink_gives g.F.Shelf.take_back_gives g.F.Shelf.give_back_gives g.F.In.Source.left g.F.In.Source.faults g.F.Out.Sink.taken g.F.Out.Sink.faults g.F.Shelf.tells g.F.Shelf.input g.F.Shelf.output g.F.Shelf.is_open g.F.Shelf.source_faults g.F.Shelf.sink_faults (take m all) c.args.files.items n c.as_str.result.now (c.in-Some.source, c.in-Some.sink) c.args.shelf.now c.loop-source.shelf c.return_file.new.shelf
          (omega arith) (omega (arith, c.args.files.ok.0)) name took.1 distinct
          (subst (λ (k : ℕ). HasReturned g.F.Shelf.source_gives g.F.Shelf.sink_gives g.F.Shelf.take_back_gives g.F.Shelf.give_back_gives g.F.In.Source.left g.F.In.Source.faults g.F.Out.Sink.taken g.F.Out.Sink.faults g.F.Shelf.tells g.F.Shelf.input g.F.Shelf.output g.F.Shelf.is_open g.F.Shelf.source_faults g.F.Shelf.sink_faults (drop k (take m all)) (drop k c.args.files.items) c.args.shelf.now c.loop-source.shelf) one c.loop-source.invariant.returned)
          c.return_file.ensures.returned;
      are_open =
          AreOpen-front (g.F.Shelf.is_open c.loop-source.shelf) (g.F.Shelf.is_open c.return_file.new.shelf) (take m all) n c.as_str.result.now (omega arith) name distinct
          (subst (λ (k : ℕ). AreOpen (g.F.Shelf.is_open c.loop-source.shelf) (take k (take m all))) one c.loop-source.invariant.are_open)
          c.return_file.ensures.closed;
    }

pub returns : goal.returns
returns g c =
    let names = take (vec_len c.args.files) (map string_bytes c.args.names.now) in
    subst (λ (n : ℕ). HasReturned g.F.Shelf.source_gives g.F.Shelf.sink_gives g.F.Shelf.take_back_gives g.F.Shelf.give_back_gives g.F.In.Source.left g.F.In.Source.faults g.F.Out.Sink.taken g.F.Out.Sink.faults g.F.Shelf.tells g.F.Shelf.input g.F.Shelf.output g.F.Shelf.is_open g.F.Shelf.source_faults g.F.Shelf.sink_faults (drop n names) (drop n c.args.files.items) c.args.shelf.now c.loop-source.shelf) c.in_default.ensures.cases.0 c.loop-source.invariant.returned
