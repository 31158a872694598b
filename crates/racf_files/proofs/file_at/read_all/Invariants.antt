-- What came lies within the buffer.
use Rattle.std.proofs.Common.{◌≤◌, length}
use Rattle.racf_files.proofs.file_at.read_all.Given as goal

abbrev pub invariant-loop : goal.invariant-loop
invariant-loop l = l.count ≤ length l.into
