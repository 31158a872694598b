use Rattle.std.proofs.Common.{subst}
use Rattle.std.specs.List.{All}
use Rattle.command_history.specs.Events.{all_of, Extends}
use Rattle.raclist_snapshots.specs.Publishing.{Seeing}
use Rattle.racroute.proofs.racf.Racf.close.Goals as goal

-- the callers are those of the vector
pub returns-clause-callers : goal.returns-clause-callers
returns-clause-callers g c =
    let P : Seeing → Type 0 = λ caller. Extends caller.events (all_of c.close.result.accepted.items c.close.result.doubt) in
    subst (All P) c.as_slice.ensures.value c.close.ensures.callers
