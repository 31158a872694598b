use Rattle.std.proofs.Common.{◌≡◌, ℕ, ◌-◌, ◌<◌, ◌≤◌, true, false, length}
use Rattle.dataspace.specs.Kept.{is_before}
use Rattle.dataspace.proofs.rows.first_not_before.Given as goal

abbrev pub invariant-loop-low : goal.invariant-loop-low
invariant-loop-low l = record {
  middle : l.low ≤ l.high;
  within : l.high ≤ length l.ends;
  before : (row : ℕ) → row < l.low → is_before l.ends row l.spot ≡ true;
  behind : (row : ℕ) → l.high ≤ row → row < length l.ends → is_before l.ends row l.spot ≡ false;
}

abbrev pub decreases-loop-low : goal.decreases-loop-low
decreases-loop-low l = l.high - l.low
