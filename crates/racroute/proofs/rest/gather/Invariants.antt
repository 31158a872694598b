use Rattle.std.proofs.Common.{◌≡◌, ◌+◌, ◌++◌, length}
use Rattle.std.specs.List.{sum_by}
use Rattle.std.specs.Vec.Iter.{into_iter_items}
use Rattle.racroute.specs.Core.{Passing}
use Rattle.racroute.proofs.rest.gather.Given as goal

-- The ends so far are put in.
abbrev pub invariant-loop-end : goal.invariant-loop-end
invariant-loop-end g l =
    record {
      left : l.yielded ++ into_iter_items l.end-iterator ≡ l.fn.ends.items;
      parts : l.commands.parts ≡ l.fn.commands.parts + length l.yielded;
      amount : l.commands.amount ≡ l.fn.commands.amount + sum_by (λ (e : Passing). e.commands) l.yielded;
      failed_parts : l.faults.parts ≡ l.fn.faults.parts + length l.yielded;
      failed : l.faults.amount ≡ l.fn.faults.amount + sum_by (λ (e : Passing). e.faults) l.yielded;
    }
