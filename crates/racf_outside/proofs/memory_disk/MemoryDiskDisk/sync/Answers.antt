use Rattle.racf_outside.proofs.Doubts.{faulty_sync}
use Rattle.racf_outside.proofs.memory_disk.MemoryDiskDisk.sync.Goals as goal

-- a sync that failed and lost what was written
pub returns-in-Ok-lose-clause-failed : goal.returns-in-Ok-lose-clause-failed
returns-in-Ok-lose-clause-failed c =
    rw (← c.self.view_is) (faulty_sync c.self.inside.first.items c.self.inside.steps.items c.lose.new.steps.items c.in-Ok-lose.ensures.steps)
