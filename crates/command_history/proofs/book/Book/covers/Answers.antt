use Rattle.std.proofs.Common.{◌≡◌, ◌-◌, length, ap, sym, ◌∙◌, subst, List}
use mathlib.Core.List.{IsPrefix}
use Rattle.command_history.specs.declared.events.Event.{Event}
use Rattle.command_history.proofs.Extensions.{covered}
use Rattle.command_history.proofs.book.Book.covers.Goals as goal

-- the next word is still away, so that no more events are there
pub returns-clause-other : goal.returns-clause-other
returns-clause-other g c =
    let both = c.learn.new.self.log in
    let after = c.compare_exchange-found.new.seen.log in
    let told = c.compare_exchange-found.ensures in
    let this : IsPrefix c.mine.inside.seen.log both = subst (λ (l : List Event). IsPrefix l both) (ap (λ s. s.log) c.again-both.ensures) c.learn.ensures.2 in
    let at : length c.mine.inside.seen.log ≡ c.turn.inside.pen.nib.key - 2 = ap length c.mine.view_is ∙ (sym c.requires.next ∙ sym c.turn.view_is) in
    rw (← c.mine.view_is, ← c.other.view_is)
    (covered c.mine.inside.seen.log c.other.inside.seen.log both after c.turn.inside.pen.nib.key at this c.learn.ensures.3 told.6 told.7.0 c.mine.invariant.2)
