use Rattle.std.proofs.Common.{length, refl, ap, arith}
use Rattle.pages.proofs.Seams.{length_up_to}
use Rattle.pages.proofs.shared_page.SharedPagePart.total.Goals as goal

pub overflow_add-total : goal.overflow_add-total
overflow_add-total g c =
    let up_to = length_up_to (λ page. page) c.args.parts.now c.loop-page.page-index 0 _ c.page-item.result c.page-item.is c.loop-page-test.true refl in
    omega (arith, up_to, c.loop-page.invariant, ap length c.page.view_is, c.page.invariant.counted, c.requires)
