use Rattle.racf_outside.proofs.Doubts.{faulty_write}
use Rattle.racf_outside.proofs.memory_disk.MemoryDiskDisk.write_at.Goals as goal

-- a write that failed and was done by half
pub returns-in-Ok-write_half-clause-failed : goal.returns-in-Ok-write_half-clause-failed
returns-in-Ok-write_half-clause-failed c =
    rw (← c.self.view_is) (faulty_write c.self.inside.first.items c.self.inside.steps.items c.write_half.new.steps.items c.args.at c.args.bytes.now c.in-Ok-write_half.ensures.history)
