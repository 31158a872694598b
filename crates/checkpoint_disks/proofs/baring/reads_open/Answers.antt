-- What was read is the head gate.
use Rattle.std.proofs.Common.{◌≡◌, ◌∙◌, length, rules}
use Rattle.checkpoint_disks.proofs.Barings.{gate_opened}
use Rattle.checkpoint_disks.proofs.baring.reads_open.Goals as goal

pub returns-clause-value : goal.returns-clause-value
returns-clause-value g c h e =
    let found = c.in_ok-count.ensures.found h e in
    let size : length c.read.new.into ≡ 1 = search rules in
    c.is_open.ensures ∙ gate_opened c.in_ok-count.count c.read.new.into h.now.bytes size found.0 found.1
