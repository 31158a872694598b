use Rattle.std.proofs.Common.{subst}
use Rattle.pages.specs.PartAt.{IsPartAt}
use Rattle.pages.proofs.shared_page.SharedPage.part_at.Goals as goal

pub returns : goal.returns
returns g c = subst (λ items. IsPartAt items c.args.place (g.P.Part.items c.part_at.result.0.now) c.part_at.result.1) c.parts.ensures.items c.part_at.ensures
