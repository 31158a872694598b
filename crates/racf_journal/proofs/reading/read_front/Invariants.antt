-- The disk is as it was, and its bytes are read as far as they are at hand.
use Rattle.std.proofs.Common.{◌-◌, ◌≤◌, ◌≡◌, length, take, vec_len}
use Rattle.racf_outside.specs.Disk.{Now}
use Rattle.racf_journal.proofs.reading.read_front.Given as goal

abbrev pub invariant-block : goal.invariant-block
invariant-block g l =
    record {
      told : g.D.Disk.tells l.disk ≡ g.D.Disk.tells l.fn.disk;
      no_fewer : g.D.Disk.faults l.fn.disk ≤ g.D.Disk.faults l.disk;
      size : vec_len l.block ≡ 65536;
      most : length l.bytes.items ≤ l.most;
      read : Now (g.D.Disk.tells l.fn.disk) (λ m. l.bytes.items ≡ take (length l.bytes.items) m.bytes);
    }

abbrev pub decreases-block : goal.decreases-block
decreases-block g l = l.most - length l.bytes.items
