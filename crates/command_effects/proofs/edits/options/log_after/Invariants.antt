use Rattle.std.proofs.Common.{◌≡◌, drop}
use Rattle.command_rules.specs.OptionEffects.{log_after}
use Rattle.command_effects.proofs.edits.options.log_after.Given as goal

-- what is left makes the same of the log option so far
abbrev pub invariant-loop-clause : goal.invariant-loop-clause
invariant-loop-clause l = log_after (drop l.clause-index l.clauses) l.class.row l.log ≡ log_after l.clauses l.class.row l.class.row.log
