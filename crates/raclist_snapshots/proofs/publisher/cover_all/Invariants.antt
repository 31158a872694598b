use Rattle.std.proofs.Common.{take}
use Rattle.std.specs.List.{All}
use Rattle.command_history.specs.Events.{Extends}
use Rattle.raclist_snapshots.specs.Publishing.{Seeing}
use Rattle.raclist_snapshots.proofs.publisher.cover_all.Given as goal

-- those so far are covered
abbrev pub invariant-loop-caller : goal.invariant-loop-caller
invariant-loop-caller g l = All (λ (caller : Seeing). Extends caller.events l.note) (take l.caller-index l.callers)
