use Rattle.std.proofs.Common.{◌≡◌, ◌+◌, ◌-◌, length, fold, take}
use Rattle.command_rules.specs.PermitEffects.{with_conditional}
use Rattle.command_rules.proofs.permit.count_with_conditional.Given as goal

-- the entries once the IDs so far have one, and one for each that is still to come
abbrev pub invariant-loop-i : goal.invariant-loop-i
invariant-loop-i l = l.count ≡ length (fold (with_conditional l.command l.condition) l.list (take l.i l.whos)) + (length l.whos - l.i)
