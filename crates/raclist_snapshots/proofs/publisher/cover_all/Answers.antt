use Rattle.std.proofs.Common.{subst, arith}
use Rattle.std.proofs.lemmas.List.{take_all}
use Rattle.std.proofs.lemmas.List.Elements.{All-more}
use Rattle.std.specs.List.{All}
use Rattle.command_history.specs.Events.{Extends}
use Rattle.raclist_snapshots.specs.Publishing.{Seeing}
use Rattle.raclist_snapshots.proofs.publisher.cover_all.Goals as goal

pub loop-caller-preserved : goal.loop-caller-preserved
loop-caller-preserved g c =
    let P : Seeing → Type 0 = λ caller. Extends caller.events c.args.note.now in
    let seen : P c.caller-item.result = rw (← c.note.ensures) c.covers.ensures in
    All-more P c.args.callers.now c.loop-caller.caller-index c.caller-item.result (omega arith) c.loop-caller.invariant
    (subst P c.caller-item.is seen)

pub returns : goal.returns
returns g c =
    let P : Seeing → Type 0 = λ caller. Extends caller.events c.args.note.now in
    subst (All P) (take_all c.loop-caller.caller-index c.args.callers.now (omega arith)) c.loop-caller.invariant
