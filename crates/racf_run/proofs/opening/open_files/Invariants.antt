use Rattle.std.proofs.Common.{◌≡◌, ◌≤◌, map, string_bytes, take, length, vec_len, vec_capacity}
use Rattle.racf_run.specs.Opening.{HasOpened}
use Rattle.racf_run.proofs.opening.open_files.Given as goal

-- the files of the first names are open
abbrev pub invariant-loop-place : goal.invariant-loop-place
invariant-loop-place g l =
    record {
      count : vec_len l.files ≡ l.place;
      room : length l.names ≤ vec_capacity l.files;
      opened :
          HasOpened g.F.Shelf.source_gives g.F.Shelf.sink_gives g.F.Shelf.take_back_gives g.F.Shelf.give_back_gives g.F.In.Source.left g.F.In.Source.faults g.F.Out.Sink.taken g.F.Out.Sink.faults
          g.F.Shelf.tells g.F.Shelf.input g.F.Shelf.output g.F.Shelf.is_open g.F.Shelf.source_faults g.F.Shelf.sink_faults (take l.place (map string_bytes l.names)) l.files.items l.fn.shelf l.shelf;
    }
