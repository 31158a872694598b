use Rattle.std.proofs.Common.{◌≡◌, ◌≤◌, length, drop}
use Rattle.generic_names.specs.Covers.{begins}
use Rattle.generic_names.proofs.covering.begins_with.Given as goal

abbrev pub invariant-loop-i : goal.invariant-loop-i
invariant-loop-i l = (l.i ≤ length l.text) × (begins (drop l.i l.front) (drop l.i l.text) ≡ begins l.front l.text)
