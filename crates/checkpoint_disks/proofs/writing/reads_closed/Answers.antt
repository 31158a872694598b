-- What was read is the head gate.
use Rattle.std.proofs.Common.{◌≡◌, ◌∙◌, length, rules}
use Rattle.checkpoint_disks.proofs.HeadGates.{gate_read}
use Rattle.checkpoint_disks.proofs.writing.reads_closed.Goals as goal

pub returns-clause-value : goal.returns-clause-value
returns-clause-value g c h e =
    let found = c.in_ok-count.ensures.found h e in
    let size : length c.read.new.into ≡ 1 = search rules in
    c.is_closed.ensures ∙ gate_read c.in_ok-count.count c.read.new.into h.now.bytes size found.0 found.1
