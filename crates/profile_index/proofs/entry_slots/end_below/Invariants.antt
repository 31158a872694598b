use Rattle.std.proofs.Common.{◌≡◌, ◌-◌, ◌≤◌, true, false, length}
use Rattle.std.specs.List.{AllWithin}
use Rattle.generic_names.specs.OrderKey.{is_lower}
use Rattle.profile_index.specs.EntrySlots.{in_slots, numbers}
use Rattle.profile_index.proofs.entry_slots.end_below.Given as goal

abbrev pub invariant-loop-low : goal.invariant-loop-low
invariant-loop-low g l = record {
  middle : l.low ≤ l.high;
  within : l.high ≤ length l.order.items;
  below : AllWithin (λ e. is_lower e.name l.key ≡ true) (in_slots l.slots (numbers l.order.items)) 0 l.low;
  above : AllWithin (λ e. is_lower e.name l.key ≡ false) (in_slots l.slots (numbers l.order.items)) l.high (length l.order.items);
}

abbrev pub decreases-loop-low : goal.decreases-loop-low
decreases-loop-low g l = l.high - l.low
