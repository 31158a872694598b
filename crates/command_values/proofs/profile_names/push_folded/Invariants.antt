use Rattle.std.proofs.Common.{◌≡◌, ◌++◌, drop, map}
use Rattle.command_words.specs.Bytes.{upper}
use Rattle.command_values.proofs.profile_names.push_folded.Given as goal

abbrev pub invariant-loop-byte : goal.invariant-loop-byte
invariant-loop-byte l = l.out.items ++ map upper (drop l.byte-index l.word) ≡ l.fn.out.items ++ map upper l.word
