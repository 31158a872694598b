use Rattle.std.proofs.Common.{◌≡◌, [], length}
use Rattle.command_words.specs.Tokens.{tokens}
use Rattle.command_words.specs.ValuedWords.{valued_words}
use Rattle.command_values.specs.Values.{clauses_from}
use Rattle.command_values.proofs.log_options.log_clauses.Given as goal

abbrev pub invariant-loop-item : goal.invariant-loop-item
invariant-loop-item l = clauses_from l.clauses.items (valued_words (tokens l.left)) ≡ clauses_from [] (valued_words (tokens l.fn.inner))

abbrev pub decreases-loop-item : goal.decreases-loop-item
decreases-loop-item l = length (valued_words (tokens l.left))
