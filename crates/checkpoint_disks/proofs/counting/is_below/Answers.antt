-- The comparison is that of the epochs.
use Rattle.std.proofs.Common.{◌∙◌, nat_lt, ap}
use Rattle.checkpoint_disks.specs.Files.{epoch_of}
use Rattle.checkpoint_disks.proofs.counting.is_below.Goals as goal

pub returns : goal.returns
returns c = ap (λ n. nat_lt n c.epoch_of-2.result) c.epoch_of.ensures ∙ ap (λ n. nat_lt (epoch_of c.args.first.now) n) c.epoch_of-2.ensures
