use Rattle.std.proofs.Common.{◌≡◌, ◌≤◌, length, drop}
use Rattle.global_table.specs.Steps.{may_begin}
use Rattle.global_table.proofs.table.may_begin.Given as goal

abbrev pub invariant-loop-i : goal.invariant-loop-i
invariant-loop-i l = (l.i ≤ length l.name) × (may_begin (drop l.i l.member) (drop l.i l.name) ≡ may_begin l.member l.name)
