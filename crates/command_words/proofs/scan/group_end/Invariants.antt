use Rattle.std.proofs.Common.{◌≡◌, ◌+◌, ◌≤◌, length}
use Rattle.command_words.specs.declared.quoting.Quoting.TheVariants.{Outside}
use Rattle.command_words.specs.Tokens.{group_end}
use Rattle.command_words.proofs.scan.group_end.Given as goal

abbrev pub invariant-loop-byte : goal.invariant-loop-byte
invariant-loop-byte l = record {
  same : group_end l.outer l.quoting l.depth l.place l.rest ≡ group_end l.outer Outside 0 (l.outer + 1) l.bytes;
  reach : l.place + length l.rest ≡ l.outer + 1 + length l.bytes;
  behind : l.outer + 1 ≤ l.place;
  depth : l.depth ≤ l.place;
}

abbrev pub decreases-loop-byte : goal.decreases-loop-byte
decreases-loop-byte l = length l.rest
