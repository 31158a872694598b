use Rattle.std.proofs.Common.{◌≡◌, [], length}
use Rattle.command_words.specs.Tokens.{tokens}
use Rattle.command_words.specs.ValuedWords.{valued_words}
use Rattle.command_values.specs.Values.{names}
use Rattle.command_values.proofs.value_reading.names.Given as goal

abbrev pub invariant-loop-item : goal.invariant-loop-item
invariant-loop-item l = names l.kind l.ids.items (valued_words (tokens l.left)) ≡ names l.kind [] (valued_words (tokens l.fn.inner))

abbrev pub decreases-loop-item : goal.decreases-loop-item
decreases-loop-item l = length (valued_words (tokens l.left))
