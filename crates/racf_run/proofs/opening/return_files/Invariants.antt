use Rattle.std.proofs.Common.{◌≡◌, ◌≤◌, map, string_bytes, take, drop, vec_len}
use Rattle.racf_run.specs.Opening.{HasReturned, AreOpen}
use Rattle.racf_run.proofs.opening.return_files.Given as goal

-- the files of the last names were handed back
abbrev pub invariant-loop-source : goal.invariant-loop-source
invariant-loop-source g l =
    let names = take (vec_len l.fn.files) (map string_bytes l.names) in
    record {
      few : vec_len l.files ≤ vec_len l.fn.files;
      rest : l.files.items ≡ take (vec_len l.files) l.fn.files.items;
      returned :
          HasReturned g.F.Shelf.source_gives g.F.Shelf.sink_gives g.F.Shelf.take_back_gives g.F.Shelf.give_back_gives g.F.In.Source.left g.F.In.Source.faults g.F.Out.Sink.taken g.F.Out.Sink.faults
          g.F.Shelf.tells g.F.Shelf.input g.F.Shelf.output g.F.Shelf.is_open g.F.Shelf.source_faults g.F.Shelf.sink_faults (drop (vec_len l.files) names) (drop (vec_len l.files) l.fn.files.items) l.fn.shelf l.shelf;
      are_open : AreOpen (g.F.Shelf.is_open l.shelf) (take (vec_len l.files) names);
    }

abbrev pub decreases-loop-source : goal.decreases-loop-source
decreases-loop-source g l = vec_len l.files
