use Rattle.std.proofs.Common.{◌≡◌, ◌<◌, drop}
use Rattle.command_values.specs.Members.{number_behind}
use Rattle.command_values.proofs.members.digits.Given as goal

abbrev pub invariant-loop-byte : goal.invariant-loop-byte
invariant-loop-byte l = record {
  same : number_behind l.number (drop l.byte-index l.word) ≡ number_behind 0 l.word;
  low : l.number < 20000;
}
