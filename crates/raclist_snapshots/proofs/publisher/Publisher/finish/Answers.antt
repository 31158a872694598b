use Rattle.std.proofs.Common.{◌≡◌, false, rules}
use Rattle.std.specs.Option.{option_map}
use Rattle.std.specs.Arc.{arc_value}
use Rattle.command_history.specs.Events.{is_ended}
use Rattle.command_history.proofs.Marks.{ended_push, failed_push}
use Rattle.raclist_snapshots.proofs.Marks.{kept_ended}
use Rattle.raclist_snapshots.proofs.publisher.Publisher.finish.Goals as goal

-- the mark is there, and the turn is used
pub invariant_of-self : goal.invariant_of-self
invariant_of-self g c =
    rw (c.end.ensures, c.take.ensures.after)
    (kept_ended g.J.Naming.base c.self.inside.note c.args.doubt.now c.self.inside.next (option_map (λ s. arc_value s) c.self.inside.spare) c.self.invariant.legal c.self.invariant.spare_is)

-- it ends the history
pub returns-in-Some-clause-is_ended : goal.returns-in-Some-clause-is_ended
returns-in-Some-clause-is_ended g c = rw c.end.ensures (ended_push c.self.inside.note c.args.doubt.now)

-- it is the one that was asked for
pub returns-in-Some-clause-mark : goal.returns-in-Some-clause-mark
returns-in-Some-clause-mark g c =
    let goes : is_ended c.self.inside.note ≡ false = search rules in
    rw c.end.ensures (failed_push c.self.inside.note c.args.doubt.now goes)
