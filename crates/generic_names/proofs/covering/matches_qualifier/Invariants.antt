use Rattle.std.proofs.Common.{◌≡◌, ◌≤◌, length, drop}
use Rattle.generic_names.specs.Covers.{matches}
use Rattle.generic_names.proofs.covering.matches_qualifier.Given as goal

abbrev pub invariant-loop-i : goal.invariant-loop-i
invariant-loop-i l = (l.i ≤ length l.qualifier) × (matches (drop l.i l.pattern) (drop l.i l.qualifier) ≡ matches l.pattern l.qualifier)
