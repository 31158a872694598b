use Rattle.std.proofs.Common.{◌≡◌, ◌+◌, ◌-◌, ◌≤◌, ◌++◌, length, map}
use Rattle.std.specs.List.{join_with_byte}
use Rattle.generic_names.specs.Reading.{rest_at}
use Rattle.generic_names.specs.Resolve.{stands_for, replaced}
use Rattle.generic_names.proofs.member.replaced_in.Given as goal

abbrev pub invariant-loop-at : goal.invariant-loop-at
invariant-loop-at l = record {
  place : l.at ≤ length l.text + 1;
  kind : l.name.kind ≡ l.fn.kind;
  same : l.name.text ++ join_with_byte 46 (map (stands_for l.user l.group) (rest_at l.text l.at)) ≡ replaced l.user l.group l.text;
}

abbrev pub decreases-loop-at : goal.decreases-loop-at
decreases-loop-at l = length l.initial.text + 1 - l.at
