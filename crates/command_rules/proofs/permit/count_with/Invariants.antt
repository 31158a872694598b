use Rattle.std.proofs.Common.{◌≡◌, ◌+◌, ◌-◌, length, fold, take}
use Rattle.command_rules.specs.PermitEffects.{with_entry}
use Rattle.command_rules.proofs.permit.count_with.Given as goal

-- the entries once the IDs so far have one, and one for each that is still to come
abbrev pub invariant-loop-i : goal.invariant-loop-i
invariant-loop-i l = l.count ≡ length (fold (with_entry l.command) l.list (take l.i l.whos)) + (length l.whos - l.i)
