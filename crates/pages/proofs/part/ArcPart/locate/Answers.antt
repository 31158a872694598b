use Rattle.std.proofs.Common.{◌<◌, subst, take, length, length-take-le, arith}
use Rattle.std.specs.Arc.{arc_value}
use Rattle.pages.proofs.Singles.{length-singles}
use Rattle.pages.proofs.part.ArcPart.locate.Goals as goal

pub returns-clause-part : goal.returns-clause-part
returns-clause-part g c = subst (λ n. c.args.place < n) (length-singles arc_value c.args._parts.now) c.requires

pub returns-clause-start : goal.returns-clause-start
returns-clause-start g c =
    let within : c.args.place < length c.args._parts.now = subst (λ n. c.args.place < n) (length-singles arc_value c.args._parts.now) c.requires in
    let front = length-singles arc_value (take c.args.place c.args._parts.now) in
    let size = length-take-le c.args.place c.args._parts.now (omega arith) in
    omega (arith, front, size)
