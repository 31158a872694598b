use Rattle.std.proofs.Common.{◌≡◌, length}
use Rattle.request_files.specs.Grammar.{with_words}
use Rattle.request_files.proofs.reading.with_words.Given as goal

abbrev pub invariant-loop-word : goal.invariant-loop-word
invariant-loop-word l = with_words l.request l.left.words ≡ with_words l.fn.request l.fn.words.words

abbrev pub decreases-loop-word : goal.decreases-loop-word
decreases-loop-word l = length l.left.words
