use Rattle.std.proofs.Common.{◌≡◌, ◌+◌, length}
use Rattle.command_words.specs.ValuedWords.{faulty_at}
use Rattle.command_words.proofs.valued_words.quoted_fault.Given as goal

abbrev pub invariant-loop-byte : goal.invariant-loop-byte
invariant-loop-byte l = record {
  same : faulty_at l.quoting l.place l.rest ≡ faulty_at l.fn.quoting l.fn.place l.word;
  reach : l.place + length l.rest ≡ l.fn.place + length l.word;
}

abbrev pub decreases-loop-byte : goal.decreases-loop-byte
decreases-loop-byte l = length l.rest
