-- The bytes of the key so far, and zeros behind them.
use Rattle.std.proofs.Common.{◌≡◌, ◌-◌, length, map, take, drop, replicate}
use Rattle.generic_names.specs.OrderKey.{discrete_byte}
use Rattle.generic_names.proofs.order_key.OrderKey.of_discrete.Given as goal

abbrev pub invariant-loop-at : goal.invariant-loop-at
invariant-loop-at l = record {
  room : length l.bytes ≡ 248;
  front : take l.at l.bytes ≡ map discrete_byte (take l.at l.text);
  behind : drop l.at l.bytes ≡ replicate (248 - l.at) 0;
}
