use Rattle.std.proofs.Common.{◌≡◌, length, map}
use Rattle.std.specs.Prelude.{bytes_eq, nat_eq}
use Rattle.std.specs.List.{starts_with}
use Rattle.command_words.specs.Bytes.{upper}
use Rattle.command_words.proofs.valued_words.left_of.Given as goal

abbrev pub invariant-loop-byte : goal.invariant-loop-byte
invariant-loop-byte l = record {
  begins : starts_with nat_eq l.left (map upper l.word) ≡ starts_with nat_eq l.fn.spelling (map upper l.fn.word);
  whole : bytes_eq (map upper l.word) l.left ≡ bytes_eq (map upper l.fn.word) l.fn.spelling;
}

abbrev pub decreases-loop-byte : goal.decreases-loop-byte
decreases-loop-byte l = length l.word
