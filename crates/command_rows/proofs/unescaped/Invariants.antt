use Rattle.std.proofs.Common.{length}
use Rattle.command_rows.proofs.unescaped.Given as goal

abbrev pub decreases-loop-byte : goal.decreases-loop-byte
decreases-loop-byte l = length l.left
