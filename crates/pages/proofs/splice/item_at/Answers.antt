use Rattle.std.proofs.Common.{◌<◌, ◌∙◌, sym, subst, length}
use Rattle.pages.proofs.Seams.{get_within}
use Rattle.pages.proofs.splice.item_at.Goals as goal

pub returns : goal.returns
returns g c =
    let f = g.P.Part.items in
    let ps = c.args.parts.now in
    let p = c.index-parts-k.result in
    let within = subst (λ r. c.locate-k.result.1 < length (f r)) (sym c.index-parts-k.is) (c.locate-k.ensures.within p) in
    get_within f ps c.locate-k.result.0 c.locate-k.result.1 c.args.place p c.index-parts-k.is c.locate-k.ensures.part c.locate-k.ensures.start within ∙ c.at.ensures
