use Rattle.std.proofs.Common.{◌≡◌, length}
use Rattle.command_words.specs.FrontWords.{past}
use Rattle.command_words.proofs.front_words.Parting.past.Given as goal

abbrev pub invariant-loop-byte : goal.invariant-loop-byte
invariant-loop-byte l = past l.self l.rest ≡ past l.self l.text

abbrev pub decreases-loop-byte : goal.decreases-loop-byte
decreases-loop-byte l = length l.rest
