-- The fields, the image and the journal, one after another.
use Rattle.std.proofs.Common.{◌≡◌, Err, refl, sym, inr, arith, rules}
use Rattle.database_image.specs.Reading.{AreBytes}
use Rattle.checkpoint_disks.proofs.Contents.{contents-head, fails-rows, fails-records, reads-whole}
use Rattle.checkpoint_disks.proofs.Held.{held}
use Rattle.checkpoint_disks.proofs.reading.read_file.Goals as goal

pub returns-in_err-head-clause-contents : goal.returns-in_err-head-clause-contents
returns-in_err-head-clause-contents c =
    let is : c.from_residual.result ≡ Err c.in_err-head.field-0.0 = search rules in
    rw is (inr (contents-head c.args.bytes.now _ (sym c.in_err-head.ensures.value)))

pub returns-in_err-rows-clause-contents : goal.returns-in_err-rows-clause-contents
returns-in_err-rows-clause-contents c =
    let is : c.from_residual-in_err-rows.result ≡ Err c.in_err-rows.field-0.0 = search rules in
    rw is (fails-rows c.args.bytes.now c.in_ok-head.head _ (sym c.in_ok-head.ensures.value) c.in_err-rows.ensures.read)

pub returns-in_err-found-clause-contents : goal.returns-in_err-found-clause-contents
returns-in_err-found-clause-contents c =
    let is : c.from_residual-in_err-found.result ≡ Err c.in_err-found.field-0.0 = search rules in
    rw is (fails-records c.args.bytes.now _ c.in_ok-head.head c.in_ok-rows.rows _ c.in_ok-head.ensures.behind refl (sym c.in_ok-head.ensures.value) c.in_ok-rows.ensures.read c.in_err-found.ensures.read)

pub returns-clause-contents : goal.returns-clause-contents
returns-clause-contents c = reads-whole c.args.bytes.now _ c.in_ok-head.head c.in_ok-rows.rows _ c.in_ok-head.ensures.behind refl (sym c.in_ok-head.ensures.value) c.in_ok-rows.ensures.read c.in_ok-found.ensures.read

pub returns-clause-held : goal.returns-clause-held
returns-clause-held c formatted opened =
    let bytes : AreBytes c.args.bytes.now = λ i. omega (arith, c.type_inv.bytes i) in
    let head = c.in_ok-head.head in
    held c.args.bytes.now head c.in_ok-rows.rows c.in_ok-found.found.records.items c.in_ok-found.found.gate bytes formatted opened c.in_ok-head.ensures.some c.in_ok-head.ensures.epoch c.in_ok-head.ensures.number c.in_ok-head.ensures.size c.in_ok-head.ensures.within c.in_ok-rows.ensures.found c.in_ok-rows.ensures.read c.in_ok-found.ensures.walked c.in_ok-head.ensures.short c.in_ok-found.ensures.room
