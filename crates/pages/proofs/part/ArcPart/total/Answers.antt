use Rattle.std.proofs.Common.{sym}
use Rattle.std.specs.Arc.{arc_value}
use Rattle.pages.proofs.Singles.{length-singles}
use Rattle.pages.proofs.part.ArcPart.total.Goals as goal

pub returns : goal.returns
returns g c = sym (length-singles arc_value c.args.parts.now)
