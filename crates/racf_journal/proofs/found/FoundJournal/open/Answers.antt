-- The repair of what was found.
use Rattle.std.proofs.Common.{sym, subst}
use Rattle.racf_journal.specs.Repair.{IsFound}
use Rattle.racf_journal.proofs.Opens.{found_held, found_reads, repaired_stays, repaired_reads, repaired_resting, repaired_rests}
use Rattle.racf_journal.proofs.found.FoundJournal.open.Goals as goal

pub repair-requires-clause-held : goal.repair-requires-clause-held
repair-requires-clause-held g c =
    found_held c.self.inside.start c.self.inside.found.gate c.self.inside.found.records.items c.bytes.result.now (g.D.Disk.tells c.self.inside.disk) (subst (λ bytes. IsFound c.self.inside.start c.self.inside.found.gate c.self.inside.found.records.items bytes (g.D.Disk.tells c.self.inside.disk)) (sym c.bytes.ensures) c.self.invariant)

pub returns-in-Ok-clause-reads : goal.returns-in-Ok-clause-reads
returns-in-Ok-clause-reads g c = rw (← c.self.view_is) (found_reads c.self.inside.start c.self.inside.found.gate c.self.inside.found.records.items c.self.inside.end (g.D.Disk.tells c.self.inside.disk) c.self.invariant)

pub returns-in-Ok-clause-again : goal.returns-in-Ok-clause-again
returns-in-Ok-clause-again g c =
    rw (← c.self.view_is) (repaired_reads c.self.inside.start c.self.inside.found.gate c.self.inside.found.records.items c.bytes.result.now (g.D.Disk.tells c.self.inside.disk) (subst (λ bytes. IsFound c.self.inside.start c.self.inside.found.gate c.self.inside.found.records.items bytes (g.D.Disk.tells c.self.inside.disk)) (sym c.bytes.ensures) c.self.invariant) (g.met.D.Disk.reads_an_image c.self.inside.disk) (g.D.Disk.tells c.repair.new.disk) c.repair.ensures.moments c.in-Ok.ensures.done
    c.cutting_changes_no_reading.ensures c.rewriting_the_gate_changes_no_reading.ensures)

pub returns-in-Ok-clause-rest : goal.returns-in-Ok-clause-rest
returns-in-Ok-clause-rest g c =
    rw (← c.self.view_is) (repaired_rests c.self.inside.start c.self.inside.found.gate c.self.inside.found.records.items c.bytes.result.now (g.D.Disk.tells c.self.inside.disk) (subst (λ bytes. IsFound c.self.inside.start c.self.inside.found.gate c.self.inside.found.records.items bytes (g.D.Disk.tells c.self.inside.disk)) (sym c.bytes.ensures) c.self.invariant) (g.met.D.Disk.reads_an_image c.self.inside.disk) (g.D.Disk.tells c.repair.new.disk) c.repair.ensures.moments c.in-Ok.ensures.done)

pub returns-in-Ok-clause-resting : goal.returns-in-Ok-clause-resting
returns-in-Ok-clause-resting g c =
    rw (← c.self.view_is) (repaired_resting c.self.inside.start c.self.inside.found.gate c.self.inside.found.records.items c.bytes.result.now (g.D.Disk.tells c.self.inside.disk) (subst (λ bytes. IsFound c.self.inside.start c.self.inside.found.gate c.self.inside.found.records.items bytes (g.D.Disk.tells c.self.inside.disk)) (sym c.bytes.ensures) c.self.invariant) (g.met.D.Disk.reads_an_image c.self.inside.disk) (g.D.Disk.tells c.repair.new.disk) c.repair.ensures.moments c.in-Ok.ensures.done)

pub returns-in-Ok-clause-moments : goal.returns-in-Ok-clause-moments
returns-in-Ok-clause-moments g c =
    rw (← c.self.view_is) (repaired_stays c.self.inside.start c.self.inside.found.gate c.self.inside.found.records.items c.bytes.result.now (g.D.Disk.tells c.self.inside.disk) (subst (λ bytes. IsFound c.self.inside.start c.self.inside.found.gate c.self.inside.found.records.items bytes (g.D.Disk.tells c.self.inside.disk)) (sym c.bytes.ensures) c.self.invariant) (g.met.D.Disk.reads_an_image c.self.inside.disk) (g.D.Disk.tells c.repair.new.disk) c.repair.ensures.moments)

pub returns-in-Err-clause-moments : goal.returns-in-Err-clause-moments
returns-in-Err-clause-moments g c =
    rw (← c.self.view_is) (repaired_stays c.self.inside.start c.self.inside.found.gate c.self.inside.found.records.items c.bytes.result.now (g.D.Disk.tells c.self.inside.disk) (subst (λ bytes. IsFound c.self.inside.start c.self.inside.found.gate c.self.inside.found.records.items bytes (g.D.Disk.tells c.self.inside.disk)) (sym c.bytes.ensures) c.self.invariant) (g.met.D.Disk.reads_an_image c.self.inside.disk) (g.D.Disk.tells c.repair.new.disk) c.repair.ensures.moments)
