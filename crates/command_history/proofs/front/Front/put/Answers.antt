use Rattle.std.proofs.Common.{◌≡◌, ◌+◌, false, length, sym, ◌∙◌, ap, arith}
use Rattle.command_history.specs.Events.{is_ended}
use Rattle.command_history.proofs.Steps.{adds_moves}
use Rattle.command_history.proofs.front.Front.put.Goals as goal

-- the exchange brings the word of the event home
pub compare_exchange-found-requires : goal.compare_exchange-found-requires
compare_exchange-found-requires g c =
    let h = c.args.book.now.head_is in
    let offer = c.plain-offer.ensures in
    let book = sym (ap (λ w. w.book) h) in
    let at = c.turn.view_is ∙ (c.requires.turn ∙ sym (ap length c.self.view_is)) in
    let key : c.turn.inside.pen.nib.key ≡ length c.self.inside.seen.log + 2 = omega (arith, at, c.turn.invariant.2) in
    let goes : is_ended c.self.inside.seen.log ≡ false = rw c.self.view_is c.requires.goes_on in (
      ap (λ w. w.tracked) h,
      c.self.invariant.1 ∙ book,
      c.turn.invariant.0 ∙ book,
      offer.0,
      rw (ap (λ w. w.key) h, offer.3 ∙ c.requires.waits)
          (adds_moves c.self.inside.seen.log c.turn.inside.pen.nib c.plain-offer.result.ask c.turn.invariant.1 key goes),
    )
