-- The first bad byte of what is left, counted from here, is the first of all.
use Rattle.std.proofs.Common.{◌≡◌, ◌+◌, not, drop}
use Rattle.std.specs.List.{position_from}
use Rattle.access_levels.specs.Spelling.{is_id_byte, bad_byte}
use Rattle.access_levels.proofs.ids.first_bad_byte.Given as goal

abbrev pub invariant-loop-byte : goal.invariant-loop-byte
invariant-loop-byte l = record {
  place : l.place ≡ l.byte-index + 1;
  rest : position_from (λ byte. not (is_id_byte byte)) l.place (drop l.byte-index l.bytes) ≡ bad_byte l.bytes;
}
