use Rattle.std.proofs.Common.{◌≡◌, ◌+◌, length}
use Rattle.command_words.specs.Tokens.{tokens_from}
use Rattle.command_words.proofs.scan.past_gaps.Given as goal

abbrev pub invariant-loop-byte : goal.invariant-loop-byte
invariant-loop-byte l = record {
  same : tokens_from l.quoting l.tied 0 l.place l.bytes ≡ tokens_from l.quoting l.fn.tied 0 l.fn.place l.fn.bytes;
  reach : l.place + length l.bytes ≡ l.fn.place + length l.fn.bytes;
}

abbrev pub decreases-loop-byte : goal.decreases-loop-byte
decreases-loop-byte l = length l.bytes
