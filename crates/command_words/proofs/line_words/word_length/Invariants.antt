use Rattle.std.proofs.Common.{◌≡◌, ◌+◌, length}
use Rattle.std.specs.Prelude.{not}
use Rattle.std.specs.List.{prefix_len}
use Rattle.command_words.specs.Bytes.{is_blank_byte}
use Rattle.command_words.proofs.line_words.word_length.Given as goal

abbrev pub invariant-loop-byte : goal.invariant-loop-byte
invariant-loop-byte l = record {
  same : l.count + prefix_len (λ byte. not (is_blank_byte byte)) l.rest ≡ prefix_len (λ byte. not (is_blank_byte byte)) l.bytes;
  reach : l.count + length l.rest ≡ length l.bytes;
}

abbrev pub decreases-loop-byte : goal.decreases-loop-byte
decreases-loop-byte l = length l.rest
