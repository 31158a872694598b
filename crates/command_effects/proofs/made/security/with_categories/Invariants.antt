use Rattle.std.proofs.Common.{◌≡◌, fold, drop}
use Rattle.command_rules.specs.Security.{with_category}
use Rattle.command_effects.proofs.made.security.with_categories.Given as goal

-- what is left makes the same of what was made
abbrev pub invariant-loop-name : goal.invariant-loop-name
invariant-loop-name l = fold (with_category l.tables.rows) l.set (drop l.name-index l.names) ≡ fold (with_category l.tables.rows) l.fn.set l.names
