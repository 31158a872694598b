use Rattle.std.proofs.Common.{◌≡◌, ◌≤◌, ◌+◌, ◌++◌, [], length, vec_len, vec_capacity}
use Rattle.std.specs.List.{All}
use Rattle.std.specs.Vec.Iter.{into_iter_items, into_iter_len}
use Rattle.raclist_snapshots.specs.Publishing.{Seeing}
use Rattle.racf_threads.specs.Working.{new_workers}
use Rattle.racf_threads.proofs.seating.seat.Given as goal

-- Those who are seated, and those to come.
abbrev pub invariant-loop-caller : goal.invariant-loop-caller
invariant-loop-caller g l =
    record {
      new : All (λ (caller : Seeing). caller ≡ record { events = []; learned = 0 }) (into_iter_items l.callers);
      made : l.workers.items ++ new_workers (into_iter_items l.passes) (into_iter_items l.files) ≡ new_workers l.fn.passes.items l.fn.files.items;
      callers_left : into_iter_len l.callers ≡ length (into_iter_items l.callers);
      passes_left : into_iter_len l.passes ≡ length (into_iter_items l.passes);
      files_left : into_iter_len l.files ≡ length (into_iter_items l.files);
      as_many : into_iter_len l.files ≡ into_iter_len l.callers;
      count : l.number + into_iter_len l.callers ≡ vec_len l.fn.callers;
      room : vec_len l.workers + into_iter_len l.callers ≤ vec_capacity l.workers;
    }

abbrev pub decreases-loop-caller : goal.decreases-loop-caller
decreases-loop-caller g l = into_iter_len l.callers
