use Rattle.std.proofs.Common.{◌≡◌, take, map, length}
use Rattle.command_words.specs.Bytes.{upper}
use Rattle.command_words.proofs.folded_word.FoldedWord.of.Given as goal

abbrev pub invariant-loop-i : goal.invariant-loop-i
invariant-loop-i g l = record {
  full : length l.bytes ≡ g.row.MOST;
  same : take l.i l.bytes ≡ map upper (take l.i l.word);
}
