use Rattle.std.proofs.Common.{sym, ◌∙◌, ap}
use Rattle.command_history.proofs.Steps.{takes_moves}
use Rattle.command_history.proofs.book.Book.turn.Goals as goal

-- the exchange takes the turn, or finds that it was taken
pub compare_exchange-found-requires : goal.compare_exchange-found-requires
compare_exchange-found-requires g c =
    let h = c.args.self.now.head_is in
    let offer = c.plain-offer.ensures in
    let pen = c.no_pen-pen.ensures in
    let again = c.again-seen.ensures in
    let book = ap (λ s. s.book) again ∙ (c.front.invariant.1 ∙ sym (ap (λ w. w.book) h)) in (
      ap (λ w. w.tracked) h,
      book,
      pen.0 ∙ book,
      offer.0,
      rw (ap (λ w. w.key) h, pen.1, offer.3) (takes_moves c.again-seen.result.log c.plain-offer.result.ask c.args.place),
    )
