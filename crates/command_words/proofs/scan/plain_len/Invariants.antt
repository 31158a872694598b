use Rattle.std.proofs.Common.{◌≡◌, ◌+◌, length}
use Rattle.command_words.specs.declared.quoting.Quoting.TheVariants.{Ignored}
use Rattle.command_words.specs.Quotes.{word_len}
use Rattle.command_words.proofs.scan.plain_len.Given as goal

abbrev pub invariant-loop-byte : goal.invariant-loop-byte
invariant-loop-byte l = record {
  same : l.count + word_len Ignored l.count l.rest ≡ word_len Ignored 0 l.bytes;
  reach : l.count + length l.rest ≡ length l.bytes;
}

abbrev pub decreases-loop-byte : goal.decreases-loop-byte
decreases-loop-byte l = length l.rest
