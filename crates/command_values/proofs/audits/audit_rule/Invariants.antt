use Rattle.std.proofs.Common.{◌≡◌, None, length}
use Rattle.command_words.specs.Tokens.{tokens}
use Rattle.command_words.specs.ValuedWords.{valued_words}
use Rattle.command_values.specs.Audits.{audits}
use Rattle.command_values.proofs.audits.audit_rule.Given as goal

abbrev pub invariant-loop-item : goal.invariant-loop-item
invariant-loop-item l = audits l.rule (valued_words (tokens l.left)) ≡ audits None (valued_words (tokens l.fn.inner))

abbrev pub decreases-loop-item : goal.decreases-loop-item
decreases-loop-item l = length (valued_words (tokens l.left))
