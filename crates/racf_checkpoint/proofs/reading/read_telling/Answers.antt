-- What was read are the first bytes of the file.
use Rattle.std.proofs.Common.{◌≡◌, ◌∙◌, length, take, rules}
use Rattle.racf_checkpoint.proofs.Formats.{front_read}
use Rattle.racf_checkpoint.proofs.reading.read_telling.Goals as goal

pub returns-clause-bytes : goal.returns-clause-bytes
returns-clause-bytes g c h e =
    let found = c.in_ok-count.ensures.found h e in
    let size : length c.read.new.into ≡ 17 = search rules in
    let is : c.extend_from_slice.new.self.items ≡ take c.in_ok-count.count c.read.new.into = search rules in
    is ∙ front_read c.in_ok-count.count c.read.new.into h.now.bytes size found.0 found.1
