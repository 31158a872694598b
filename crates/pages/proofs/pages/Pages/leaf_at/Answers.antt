use Rattle.std.proofs.Common.{◌∙◌, ap, subst}
use Rattle.std.specs.List.{flat_map}
use Rattle.pages.specs.PartAt.{IsPartAt}
use Rattle.pages.proofs.Seams.{part_of_part}
use Rattle.pages.proofs.pages.Pages.leaf_at.Goals as goal

pub returns : goal.returns
returns g c =
    let page = c.part_at-rest.result.0.now in
    let rest = c.part_at-rest.result.1 in
    let all = ap (λ ps. flat_map (λ page. page) ps) c.deref.ensures.value ∙ c.self.view_is in
    let there = subst (λ items. IsPartAt items c.args.place page rest) all c.part_at-rest.ensures in
    part_of_part c.args.self.now page (g.L.Part.items c.part_at.result.0.now) c.args.place rest c.part_at.result.1 there c.part_at.ensures
