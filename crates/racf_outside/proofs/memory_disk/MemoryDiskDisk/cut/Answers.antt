use Rattle.racf_outside.proofs.Doubts.{on_err, faulty_cut}
use Rattle.racf_outside.proofs.memory_disk.MemoryDiskDisk.cut.Goals as goal

-- a cut that failed and is done all the same
pub returns-in-Ok-clause-failed : goal.returns-in-Ok-clause-failed
returns-in-Ok-clause-failed c =
    rw (← c.self.view_is) (on_err c.call-called.result _ (faulty_cut c.self.inside.first.items c.self.inside.steps.items c.cut_off.new.steps.items c.args.length c.in-Ok.ensures.steps))
