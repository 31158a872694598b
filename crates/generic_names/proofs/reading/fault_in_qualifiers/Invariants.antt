use Rattle.std.proofs.Common.{◌≡◌, ◌+◌, ◌-◌, ◌≤◌, length}
use Rattle.generic_names.specs.Spelled.{qualifiers}
use Rattle.generic_names.specs.Faults.{qualifiers_fault}
use Rattle.generic_names.specs.Reading.{rest_at}
use Rattle.generic_names.proofs.reading.fault_in_qualifiers.Given as goal

abbrev pub invariant-loop-at : goal.invariant-loop-at
invariant-loop-at l = record {
  number : l.number ≤ l.at + 1;
  place : l.at ≤ length l.text + 1;
  same : qualifiers_fault l.form l.kind l.number (l.at + 1) (rest_at l.text l.at) ≡ qualifiers_fault l.form l.kind 1 1 (qualifiers l.text);
}

abbrev pub decreases-loop-at : goal.decreases-loop-at
decreases-loop-at l = length l.initial.text + 1 - l.at
