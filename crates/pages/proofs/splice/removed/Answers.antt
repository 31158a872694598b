use Rattle.std.proofs.Common.{◌+◌, ◌<◌, ◌++◌, ◌∙◌, ap, sym, subst, length, take, drop}
use Rattle.std.specs.List.{flat_map}
use Rattle.pages.proofs.Seams.{remove_within}
use Rattle.pages.proofs.splice.removed.Goals as goal

pub returns-clause-items : goal.returns-clause-items
returns-clause-items g c =
    let f = g.P.Part.items in
    let ps = c.args.parts.now in
    let k = c.locate-k.result.0 in
    let j = c.locate-k.result.1 in
    let p = c.index-parts-k.result in
    let within = subst (λ r. j < length (f r)) (sym c.index-parts-k.is) (c.locate-k.ensures.within p) in
    c.in_ok-what.ensures.items
    ∙ ap (λ ys. flat_map f (take k ps) ++ (ys ++ flat_map f (drop (k + 1) ps))) c.in_ok-made.ensures.items
    ∙ sym (remove_within f ps k j c.args.place p c.index-parts-k.is c.locate-k.ensures.part c.locate-k.ensures.start within)
