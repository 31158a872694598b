use Rattle.checkpoint_disks.proofs.Counts.{open_is_new}
use Rattle.checkpoint_disks.proofs.laws.an_open_head_has_its_body.Goals as goal

pub returns : goal.returns
returns c before made file left long closed opened = open_is_new before made file left long closed opened
