use Rattle.checkpoint_disks.specs.Compacting.{new_file, new_checkpoint}
use Rattle.checkpoint_disks.proofs.Counts.{says_either}
use Rattle.checkpoint_disks.proofs.laws.what_is_left_says_either.Goals as goal

pub returns : goal.returns
returns c side live before file epoch number rows counts stored fits most room =
    says_either side live before (new_file epoch number rows) file epoch (new_checkpoint epoch number rows) counts
    (c.a_new_file_says_its_checkpoint.ensures.beside side live before epoch number rows counts stored fits most room)
