use Rattle.std.proofs.Common.{◌≡◌, ◌+◌, length}
use Rattle.command_words.specs.LineWords.{words_at}
use Rattle.command_words.proofs.line_words.past_blanks.Given as goal

abbrev pub invariant-loop-byte : goal.invariant-loop-byte
invariant-loop-byte l = record {
  same : words_at l.place l.bytes ≡ words_at l.fn.place l.fn.bytes;
  reach : l.place + length l.bytes ≡ l.fn.place + length l.fn.bytes;
}

abbrev pub decreases-loop-byte : goal.decreases-loop-byte
decreases-loop-byte l = length l.bytes
