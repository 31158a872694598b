use Rattle.std.proofs.Common.{ap, subst, List}
use mathlib.Core.List.{IsPrefix}
use Rattle.command_history.specs.declared.events.Event.{Event}
use Rattle.command_history.proofs.Extensions.{compared}
use Rattle.command_history.proofs.front.Front.is_behind.Goals as goal

-- both are beginnings of what both know
pub returns : goal.returns
returns g c =
    let this : IsPrefix c.self.inside.seen.log c.learn.new.self.log = subst (λ (l : List Event). IsPrefix l c.learn.new.self.log) (ap (λ s. s.log) c.again-both.ensures) c.learn.ensures.2 in
    rw (← c.self.view_is, ← c.other.view_is, c.self.invariant.0, c.other.invariant.0)
    (compared c.self.inside.seen.log c.other.inside.seen.log c.learn.new.self.log c.self.invariant.2 c.other.invariant.2 this c.learn.ensures.3)
