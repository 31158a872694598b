use Rattle.std.proofs.Common.{◌≡◌, ◌+◌, length}
use Rattle.command_words.specs.Quotes.{word_len}
use Rattle.command_words.proofs.scan.quoted_len.Given as goal

abbrev pub invariant-loop-byte : goal.invariant-loop-byte
invariant-loop-byte l = record {
  same : l.count + word_len l.quoting l.place l.rest ≡ word_len l.fn.quoting l.fn.place l.bytes;
  place : l.place ≡ l.fn.place + l.count;
  reach : l.count + length l.rest ≡ length l.bytes;
}

abbrev pub decreases-loop-byte : goal.decreases-loop-byte
decreases-loop-byte l = length l.rest
