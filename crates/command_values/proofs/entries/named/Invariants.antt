use Rattle.std.proofs.Common.{◌≡◌, [], length}
use Rattle.command_words.specs.Tokens.{tokens}
use Rattle.command_words.specs.ValuedWords.{valued_words}
use Rattle.command_values.proofs.NamedWhos.{whos_behind}
use Rattle.command_values.proofs.entries.named.Given as goal

abbrev pub invariant-loop-item : goal.invariant-loop-item
invariant-loop-item l = whos_behind l.items.items (valued_words (tokens l.left)) ≡ whos_behind [] (valued_words (tokens l.fn.inner))

abbrev pub decreases-loop-item : goal.decreases-loop-item
decreases-loop-item l = length (valued_words (tokens l.left))
