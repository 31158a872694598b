use Rattle.std.proofs.Common.{inl, inr, sym, ◌∙◌, subst}
use Rattle.racf_run.specs.Racf.{IsUnsound}
use Rattle.std.proofs.Math.Nat.{le_trans}
use Rattle.racf_run.proofs.CompactLaws.{of_disk_fault, no_other, no_other_opening, ends_compact, compact_along}
use Rattle.racf_run.proofs.Unsound.{no_disk_fault, ends_sound}
use Rattle.racf_run.proofs.DiskLaws.{either_later, rose_idle, no_fewer, same_count}
use Rattle.racf_run.proofs.compacting.compact_on.Goals as goal

-- the database was opened
pub returns-in-Ok-clause-compacts : goal.returns-in-Ok-clause-compacts
returns-in-Ok-clause-compacts g c =
    let tells = g.D.Disk.tells in
    let done = c.compact.ensures in
    inr (record {
      base = c.in-Ok.desk.position;
      stood = c.in-Ok.ensures.stands;
      ran =
          ends_compact (tells c.args.disks.first) (tells c.args.disks.second) (tells c.compact.result.1.first) (tells c.compact.result.1.second) c.compact.result.0 c.in-Ok.desk.position c.in-Ok.desk.store.epoch
          done.ends c.in-Ok.ensures.epoch done.done done.stands done.last done.memory;
    })

pub returns-in-Ok-clause-moments : goal.returns-in-Ok-clause-moments
returns-in-Ok-clause-moments g c =
    let tells = g.D.Disk.tells in
    compact_along tells (tells c.args.disks.first) (tells c.args.disks.second) c.in-Ok.desk.store c.compact.result.1.first c.compact.result.1.second c.in-Ok.desk.position
    c.in-Ok.ensures.stands c.in-Ok.ensures.first_moments c.in-Ok.ensures.second_moments c.in-Ok.ensures.joint c.compact.ensures.moments c.compact.ensures.live

pub returns-in-Ok-clause-only_synced : goal.returns-in-Ok-clause-only_synced
returns-in-Ok-clause-only_synced g c = λ e. absurd (ends_sound c.compact.result.0 c.compact.ensures.ends e)

pub returns-in-Ok-clause-no_other : goal.returns-in-Ok-clause-no_other
returns-in-Ok-clause-no_other g c = no_other c.compact.result.0 c.compact.ensures.ends

pub returns-in-Ok-clause-disk_fault : goal.returns-in-Ok-clause-disk_fault
returns-in-Ok-clause-disk_fault g c = λ e.
    let store = c.in-Ok.desk.store in
    either_later _ _ _ _ _ _ c.in-Ok.ensures.first_no_fewer c.in-Ok.ensures.second_no_fewer
    (rose_idle g.D.Disk.faults store.side store.journal.disk store.idle c.compact.result.1.first c.compact.result.1.second (c.compact.ensures.disk_fault e))

pub returns-in-Ok-clause-first_faults : goal.returns-in-Ok-clause-first_faults
returns-in-Ok-clause-first_faults g c =
    let store = c.in-Ok.desk.store in
    le_trans c.in-Ok.ensures.first_no_fewer
    (no_fewer g.D.Disk.faults store.side store.journal.disk store.idle c.compact.result.1.first c.compact.result.1.second (same_count g.D.Disk.faults _ _ (sym c.compact.ensures.live)) c.compact.ensures.no_fewer).0

pub returns-in-Ok-clause-second_faults : goal.returns-in-Ok-clause-second_faults
returns-in-Ok-clause-second_faults g c =
    let store = c.in-Ok.desk.store in
    le_trans c.in-Ok.ensures.second_no_fewer
    (no_fewer g.D.Disk.faults store.side store.journal.disk store.idle c.compact.result.1.first c.compact.result.1.second (same_count g.D.Disk.faults _ _ (sym c.compact.ensures.live)) c.compact.ensures.no_fewer).1

-- it wasn't
pub returns-in-Err-clause-compacts : goal.returns-in-Err-clause-compacts
returns-in-Err-clause-compacts g c =
    inl (record {
      why = c.in-Err.why;
      is_status = c.opening_status.ensures;
      refused = c.in-Err.ensures.fault;
      first_moments = c.in-Err.ensures.first_moments;
      second_moments = c.in-Err.ensures.second_moments;
      joint = c.in-Err.ensures.joint;
      only_synced = c.in-Err.ensures.untouched;
    })

pub returns-in-Err-clause-only_synced : goal.returns-in-Err-clause-only_synced
returns-in-Err-clause-only_synced g c = λ e. c.in-Err.ensures.untouched (no_disk_fault c.in-Err.why (subst IsUnsound c.opening_status.ensures e))

pub returns-in-Err-clause-moments : goal.returns-in-Err-clause-moments
returns-in-Err-clause-moments g c = inl (c.in-Err.ensures.first_moments, c.in-Err.ensures.second_moments)

pub returns-in-Err-clause-no_other : goal.returns-in-Err-clause-no_other
returns-in-Err-clause-no_other g c = rw c.opening_status.ensures (no_other_opening c.in-Err.why)

pub returns-in-Err-clause-disk_fault : goal.returns-in-Err-clause-disk_fault
returns-in-Err-clause-disk_fault g c = λ e. c.in-Err.ensures.cause (of_disk_fault c.in-Err.why (sym c.opening_status.ensures ∙ e))
