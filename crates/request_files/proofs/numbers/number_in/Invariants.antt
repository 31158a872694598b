use Rattle.std.proofs.Common.{◌≡◌, ◌≤◌, drop}
use Rattle.request_files.specs.Spellings.{number_behind}
use Rattle.request_files.proofs.numbers.number_in.Given as goal

abbrev pub invariant-loop-digit : goal.invariant-loop-digit
invariant-loop-digit l = record {
  same : number_behind l.number (drop l.digit-index l.digits) ≡ number_behind 0 l.digits;
  small : l.number ≤ 5000000000000000000;
}
