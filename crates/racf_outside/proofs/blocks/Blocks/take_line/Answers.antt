use Rattle.std.proofs.Common.{◌+◌, ◌≡◌, ◌∙◌, length, arith, ap, refl}
use Rattle.std.specs.List.{slice_range}
use Rattle.racf_outside.proofs.Bytes.{drop-slice_range, take-slice_range}
use Rattle.racf_outside.proofs.blocks.Blocks.take_line.Goals as goal

-- what is given is the front of what was ready, and what is ready then is the rest
pub returns : goal.returns
returns g c =
    let items = c.self.inside.block.items in
    let from = c.self.inside.from in
    let to = c.self.inside.to in
    let same : length (slice_range items from to) ≡ length c.args.self.now.ready = ap (λ v. length v.ready) c.self.view_is in
    rw (← c.self.view_is) (
      (refl, λ _. tt, record { ready = drop-slice_range (c.args.size + 1) items from to (omega (arith, c.requires, same)); left = refl; faults = refl }),
      record {
        bytes = ap (λ bytes. slice_range bytes from (from + c.args.size)) c.deref.ensures.value ∙ take-slice_range c.args.size items from to (omega (arith, c.requires, same));
        after = tt;
      },
    )
