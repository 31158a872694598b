use Rattle.racf_stream.proofs.Resting.{stays_moves}
use Rattle.racf_stream.proofs.stream.Stream.process.Goals as goal

pub returns-in-Request-clause-moves : goal.returns-in-Request-clause-moves
returns-in-Request-clause-moves g c = stays_moves g.D.Disk.tells g.D.Disk.faults c.args.item.now c.args.self.now c.request.new.self c.request.ensures.stays
