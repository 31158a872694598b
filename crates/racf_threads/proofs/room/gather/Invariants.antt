use Rattle.std.proofs.Common.{◌≡◌, ◌≤◌, ◌+◌, ◌++◌, map, length, vec_len, vec_capacity}
use Rattle.std.specs.List.{filter_map}
use Rattle.std.specs.Vec.Iter.{into_iter_items, into_iter_len}
use Rattle.racf_threads.specs.Together.{greater, greatest}
use Rattle.racf_threads.proofs.room.gather.Given as goal

-- What those so far left, and what those to come leave.
abbrev pub invariant-loop-worker : goal.invariant-loop-worker
invariant-loop-worker g l =
    record {
      left : into_iter_len l.workers ≡ length (into_iter_items l.workers);
      callers : l.callers.items ++ map (λ w. w.caller) (into_iter_items l.workers) ≡ map (λ w. w.caller) l.fn.workers.items;
      ends : l.ends.items ++ filter_map (λ w. w.end) (into_iter_items l.workers) ≡ filter_map (λ w. w.end) l.fn.workers.items;
      outs : l.outs.items ++ filter_map (λ w. w.files) (into_iter_items l.workers) ≡ filter_map (λ w. w.files) l.fn.workers.items;
      status : greater l.status (greatest (map (λ w. w.status) (into_iter_items l.workers))) ≡ greatest (map (λ w. w.status) l.fn.workers.items);
      callers_room : vec_len l.callers + into_iter_len l.workers ≤ vec_capacity l.callers;
      ends_room : vec_len l.ends + into_iter_len l.workers ≤ vec_capacity l.ends;
      outs_room : vec_len l.outs + into_iter_len l.workers ≤ vec_capacity l.outs;
    }

abbrev pub decreases-loop-worker : goal.decreases-loop-worker
decreases-loop-worker g l = into_iter_len l.workers
