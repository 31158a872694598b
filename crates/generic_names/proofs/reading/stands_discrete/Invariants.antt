-- So many bytes of a qualifier are passed, and the rest of the text tells what the whole does.
use Rattle.std.proofs.Common.{◌≡◌, ◌≤◌, drop}
use Rattle.generic_names.proofs.FaultlessLaws.{goes_on}
use Rattle.generic_names.proofs.reading.stands_discrete.Given as goal

abbrev pub invariant-loop-byte : goal.invariant-loop-byte
invariant-loop-byte l = record {
  within : l.passed ≤ l.byte-index;
  same : goes_on l.kind l.longest l.passed (drop l.byte-index l.text) ≡ goes_on l.kind l.longest 0 l.text;
}
