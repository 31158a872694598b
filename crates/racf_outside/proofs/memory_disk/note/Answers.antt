use Rattle.racf_outside.proofs.Replays.{replayed-noted}
use Rattle.racf_outside.proofs.memory_disk.note.Goals as goal
use Rattle.racf_outside.proofs.memory_disk.note.Goals.{in-Ok, in-Err}

pub returns-clause-noted : goal.returns-clause-noted
returns-clause-noted c =
    elim c.match-push.branch [
      | in-Ok w ↦ rw w.result-is (replayed-noted c.args.steps.now.items c.push.new.self.items c.args.step w.in-Ok.ensures.items)
      | in-Err w ↦ rw w.result-is tt
    ]
