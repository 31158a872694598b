use Rattle.checkpoint_disks.proofs.Counts.{new_says, new_says_beside}
use Rattle.checkpoint_disks.proofs.laws.a_new_file_says_its_checkpoint.Goals as goal

pub returns-clause-alone : goal.returns-clause-alone
returns-clause-alone c epoch number rows stored = new_says epoch number rows (c.images_are_of_rows.ensures.only rows stored)

pub returns-clause-beside : goal.returns-clause-beside
returns-clause-beside c side live before epoch number rows counts stored = new_says_beside side live before epoch number rows counts (c.images_are_of_rows.ensures.only rows stored)
