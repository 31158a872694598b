use Rattle.std.proofs.Common.{◌≡◌, ◌+◌, ◌-◌, ◌≤◌, length}
use Rattle.generic_names.specs.Walked.{covers_end_at}
use Rattle.generic_names.proofs.covering.covers_some_end.Given as goal

abbrev pub invariant-loop-at : goal.invariant-loop-at
invariant-loop-at l = record {
  pattern_end : l.at ≤ length l.pattern + 1;
  name_end : l.from ≤ length l.name + 1;
  same : covers_end_at l.kind l.pattern l.initial.at l.name l.initial.from ≡ covers_end_at l.kind l.pattern l.at l.name l.from;
}

abbrev pub decreases-loop-at : goal.decreases-loop-at
decreases-loop-at l = (length l.initial.pattern + 1 - l.at) + (length l.initial.name + 1 - l.from)
