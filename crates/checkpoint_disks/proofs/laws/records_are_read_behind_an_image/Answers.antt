use Rattle.checkpoint_disks.proofs.Counts.{journal_says, journal_counts}
use Rattle.checkpoint_disks.proofs.laws.records_are_read_behind_an_image.Goals as goal

pub returns-clause-says : goal.returns-clause-says
returns-clause-says c epoch number image rows records file read = journal_says epoch number image rows records file read

pub returns-clause-counts : goal.returns-clause-counts
returns-clause-counts c epoch number image records file fits reads = journal_counts epoch number image records file fits reads
