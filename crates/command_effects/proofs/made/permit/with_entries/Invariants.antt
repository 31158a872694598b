use Rattle.std.proofs.Common.{◌≡◌, fold, drop}
use Rattle.command_rules.specs.PermitEffects.{with_entry}
use Rattle.command_effects.proofs.made.permit.with_entries.Given as goal

-- what is left makes the same of what was made
abbrev pub invariant-loop-who : goal.invariant-loop-who
invariant-loop-who l = fold (with_entry l.command) l.list.items (drop l.who-index l.whos) ≡ fold (with_entry l.command) l.fn.list.items l.whos
