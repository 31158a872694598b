use Rattle.std.proofs.Common.{arith, sym, subst}
use Rattle.database_image.specs.Reading.{AreBytes}
use Rattle.database_image.specs.Image.{Reads}
use Rattle.database_image.proofs.Images.{read-width, behind-first, first-refused, found_in}
use Rattle.database_image.proofs.reading.read.Goals as goal

pub unless_broken-requires : goal.unless_broken-requires
unless_broken-requires c =
    let bytes : AreBytes c.args.bytes.now = λ i. omega (arith, c.type_inv.bytes i) in
    let width = read-width c.args.bytes.now c.in-Ok.rows bytes c.in-Ok.ensures.exact in
    record { fields = c.in-Ok.ensures.found.0; room = omega (arith, width) }

pub returns-in-Ok : goal.returns-in-Ok
returns-in-Ok c =
    let exact = subst (Reads c.unless_broken.result) (sym (behind-first c.args.bytes.now c.in-Ok.rows c.in-Ok.ensures.exact)) c.unless_broken.ensures in
    let bytes : AreBytes c.args.bytes.now = λ i. omega (arith, c.type_inv.bytes i) in
    record { exact = exact; found = found_in c.unless_broken.result c.args.bytes.now bytes exact }

pub returns-in-Err : goal.returns-in-Err
returns-in-Err c = record { exact = first-refused c.args.bytes.now c.in-Err.fault c.in-Err.ensures.exact; found = tt }
