use Rattle.std.proofs.Common.{◌≡◌, length, arith, ap}
use Rattle.std.specs.List.{slice_range}
use Rattle.racf_outside.proofs.Bytes.{drop-slice_range}
use Rattle.racf_outside.proofs.blocks.Blocks.pass.Goals as goal

-- what is ready is a range of the block
pub returns-clause-ready : goal.returns-clause-ready
returns-clause-ready g c =
    let same : length (slice_range c.self.inside.block.items c.self.inside.from c.self.inside.to) ≡ length c.args.self.now.ready = ap (λ v. length v.ready) c.self.view_is in
    rw (← c.self.view_is) (drop-slice_range c.args.count c.self.inside.block.items c.self.inside.from c.self.inside.to (omega (arith, c.requires)))
