-- The file that counts holds what is read of it.
use Rattle.checkpoint_disks.specs.Counting.{as_read}
use Rattle.checkpoint_disks.proofs.Counts.{counted_held}
use Rattle.checkpoint_disks.proofs.counting.read_pair.Goals as goal

pub returns-clause-held : goal.returns-clause-held
returns-clause-held c =
    let both = c.in_ok-side.ensures.formatted in
    counted_held c.args.first.now c.args.second.now c.file_on-file.result.now c.in_ok-side.side (as_read c.in_ok-read_file.field-0) both.0 both.1 c.in_ok-side.ensures.counts c.file_on-file.ensures c.in_ok-read_file.ensures.held
