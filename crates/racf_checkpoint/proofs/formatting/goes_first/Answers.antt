-- What was read are the first bytes of both files.
use Rattle.std.proofs.Common.{◌≡◌, ◌∙◌, length, rules}
use Rattle.racf_checkpoint.proofs.Formats.{front_read, goes_first}
use Rattle.racf_checkpoint.proofs.formatting.goes_first.Goals as goal

pub returns-clause-side : goal.returns-clause-side
returns-clause-side g c h e k f =
    let one = c.in_ok-read_one.ensures.found h e in
    let two = c.in_ok-read_two.ensures.found k f in
    let size : length c.read.new.into ≡ 17 = search rules in
    let size_too : length c.read-2.new.into ≡ 17 = search rules in
    c.first_to_go.ensures ∙ goes_first _ _ h.now.bytes k.now.bytes (front_read c.in_ok-read_one.read_one c.read.new.into h.now.bytes size one.0 one.1) (front_read c.in_ok-read_two.read_two c.read-2.new.into k.now.bytes size_too two.0 two.1)
