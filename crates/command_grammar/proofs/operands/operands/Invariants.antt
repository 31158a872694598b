use Rattle.std.proofs.Common.{◌≡◌, length}
use Rattle.command_words.specs.Tokens.{tokens}
use Rattle.command_words.specs.ValuedWords.{valued_words}
use Rattle.command_grammar.specs.Reading.{operands_at, no_slots}
use Rattle.command_grammar.proofs.operands.operands.Given as goal

abbrev pub invariant-loop-item : goal.invariant-loop-item
invariant-loop-item l = record {
  same : operands_at l.at l.rows l.slots.items (valued_words (tokens l.left)) ≡ operands_at l.at l.rows (no_slots l.rows) (valued_words (tokens l.fn.text));
  slots : length l.slots.items ≡ length l.rows;
}

abbrev pub decreases-loop-item : goal.decreases-loop-item
decreases-loop-item l = length (valued_words (tokens l.left))
