use Rattle.std.proofs.Common.{◌≡◌, ◌-◌, ◌++◌, length, map, take}
use Rattle.generic_names.specs.Spelled.{qualifiers}
use Rattle.generic_names.specs.Before.{ranks}
use Rattle.generic_names.specs.OrderKey.{squeezed}
use Rattle.generic_names.proofs.order_key.OrderKey.of_first.Given as goal

abbrev pub invariant-loop-at : goal.invariant-loop-at
invariant-loop-at l = record {
  room : length l.key ≡ l._at;
  same : map squeezed (take l.fn.count (ranks (qualifiers l.text))) ≡ l.key ++ map squeezed (take (l.fn.count - l._at) l.these);
}
