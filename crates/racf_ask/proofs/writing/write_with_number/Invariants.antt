use Rattle.std.proofs.Common.{◌≡◌, true, ◌++◌, length}
use Rattle.racf_ask.proofs.Numbering.{numbered_rest}
use Rattle.racf_ask.proofs.writing.write_with_number.Given as goal

-- what was written, and what the rest gives, is what the whole gives
abbrev pub invariant-byte : goal.invariant-byte
invariant-byte l = l.out.items ++ numbered_rest l.begins l.number l.rest ≡ l.fn.out.items ++ numbered_rest true l.number l.text

abbrev pub decreases-byte : goal.decreases-byte
decreases-byte l = length l.rest
