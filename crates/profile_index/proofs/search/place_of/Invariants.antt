use Rattle.std.proofs.Common.{◌≡◌, ◌+◌, ◌-◌, ◌*◌, ◌^◌, ◌≤◌, true, length}
use Rattle.std.specs.List.{AllWithin}
use Rattle.generic_names.specs.Before.{before}
use Rattle.profile_index.proofs.search.place_of.Given as goal

abbrev pub invariant-loop-size : goal.invariant-loop-size
invariant-loop-size g l = record {
  within : l.low + l.size ≤ length l.slots.entries;
  below : AllWithin (λ e. before e.name l.name ≡ true) l.slots.entries 0 l.low;
  above : AllWithin (λ e. before l.name e.name ≡ true) l.slots.entries (l.low + l.size) (length l.slots.entries);
  onward : l.fn.steps ≤ l.steps;
  weight : 2 ^ (l.steps - l.fn.steps) * l.size ≤ length l.slots.entries;
  cost : 2 ^ (l.steps - l.fn.steps) ≤ 2 * length l.slots.entries + 1;
}

abbrev pub decreases-loop-size : goal.decreases-loop-size
decreases-loop-size g l = l.size
