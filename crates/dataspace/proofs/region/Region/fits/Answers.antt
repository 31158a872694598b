use Rattle.std.proofs.Common.{◌+◌, ◌-◌, ◌<◌, ◌≤◌, ◌∙◌, length, ap, ltb, arith}
use Rattle.std.proofs.lemmas.Bool.{lt-leb}
use Rattle.dataspace.specs.Placed.{fits}
use Rattle.dataspace.proofs.KeptLaws.{fits-rows, fits-not}
use Rattle.dataspace.proofs.region.Region.fits.Goals as goal

pub returns-then-length-self : goal.returns-then-length-self
returns-then-length-self c =
    let inside = c.self.inside in
    let free : length inside.bytes.items + c.args.length ≤ inside.byte_room = omega (arith, c.if-length-self.true, c.len.ensures, inside.bytes.ok.0, c.self.invariant.bytes) in
    ap (λ n. ltb n inside.row_room) (c.len-then-length-self.ensures ∙ inside.ends.ok.0) ∙ fits-rows inside c.self.invariant c.args.length free ∙ ap (λ r. fits r c.args.length) c.self.view_is

pub returns-else-length-self : goal.returns-else-length-self
returns-else-length-self c =
    let inside = c.self.inside in
    let full : inside.byte_room < length inside.bytes.items + c.args.length = omega (arith, c.if-length-self.false, c.len.ensures, inside.bytes.ok.0, c.self.invariant.bytes) in
    lt-leb c.args.length (inside.byte_room - c.len.result) c.if-length-self.false ∙ fits-not inside c.self.invariant c.args.length full ∙ ap (λ r. fits r c.args.length) c.self.view_is
