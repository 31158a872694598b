use Rattle.published_desk.specs.Standing.{AreTogether}
use Rattle.snapshot_times.proofs.publish.Given as goal

-- the desk and its publisher stand together
abbrev pub invariant-loop : goal.invariant-loop
invariant-loop g l = AreTogether g.J.Naming.base l.desk l.publisher
