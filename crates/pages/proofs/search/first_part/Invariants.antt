use Rattle.std.proofs.Common.{◌≡◌, ◌-◌, ◌<◌, ◌≤◌, true, false, length, take, get_or}
use Rattle.std.specs.List.{flat_map, list_any}
use Rattle.pages.proofs.search.first_part.Given as goal

abbrev pub invariant-loop-low : goal.invariant-loop-low
invariant-loop-low g l = record {
  ordered : l.low ≤ l.high;
  within : l.high ≤ length l.parts;
  none : list_any (g.Q.Probe.passes l.probe) (flat_map g.P.Part.items (take l.low l.parts)) ≡ false;
  some : (d : _) → l.high < length l.parts → list_any (g.Q.Probe.passes l.probe) (g.P.Part.items (get_or l.parts l.high d)) ≡ true;
}

abbrev pub decreases-loop-low : goal.decreases-loop-low
decreases-loop-low g l = l.high - l.low
