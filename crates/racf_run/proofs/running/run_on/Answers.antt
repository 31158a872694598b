use Rattle.std.proofs.Common.{inl, inr, refl, subst, arith}
use Rattle.racf_run.specs.Racf.{IsUnsound, fault_counts, opened_on}
use Rattle.racf_run.proofs.Unsound.{no_disk_fault}
use Rattle.racf_run.proofs.DiskLaws.{opens_on, either_later}
use Rattle.racf_run.proofs.running.run_on.Goals as goal

-- the database was opened
pub returns-in-Ok-clause-runs : goal.returns-in-Ok-clause-runs
returns-in-Ok-clause-runs g c =
    let tells = g.D.Disk.tells in
    inr (record {
      base = c.in-Ok.desk.position;
      stood = c.in-Ok.ensures.stands;
      ran = (
        opened_on tells c.in-Ok.desk.store,
        opens_on tells c.in-Ok.desk.store (tells c.args.disks.first) (tells c.args.disks.second) c.in-Ok.ensures.first_moments c.in-Ok.ensures.second_moments c.in-Ok.ensures.joint,
        c.run_between.ensures.runs (fault_counts (g.F.Shelf.source_faults c.args.shelf.now) (g.F.Shelf.sink_faults c.args.shelf.now) (g.D.Disk.faults c.args.disks.first) (g.D.Disk.faults c.args.disks.second))
            (record { reads = omega arith; writes = omega arith; first = c.in-Ok.ensures.first_no_fewer; second = c.in-Ok.ensures.second_no_fewer }),
      );
    })

pub returns-in-Ok-clause-only_synced : goal.returns-in-Ok-clause-only_synced
returns-in-Ok-clause-only_synced g c = λ e. absurd (c.run_between.ensures.sound e)

-- it wasn't
pub returns-in-Err-clause-runs : goal.returns-in-Err-clause-runs
returns-in-Err-clause-runs g c =
    inl (record {
      unopened =
          record {
            why = c.in-Err.why;
            is_status = c.opening_status.ensures;
            refused = c.in-Err.ensures.fault;
            first_moments = c.in-Err.ensures.first_moments;
            second_moments = c.in-Err.ensures.second_moments;
            joint = c.in-Err.ensures.joint;
            only_synced = c.in-Err.ensures.untouched;
          };
      kept = refl;
    })

pub returns-in-Err-clause-only_synced : goal.returns-in-Err-clause-only_synced
returns-in-Err-clause-only_synced g c = λ e. c.in-Err.ensures.untouched (no_disk_fault c.in-Err.why (subst IsUnsound c.opening_status.ensures e))

pub returns-in-Ok-clause-disk_fault : goal.returns-in-Ok-clause-disk_fault
returns-in-Ok-clause-disk_fault g c = λ e. either_later _ _ _ _ _ _ c.in-Ok.ensures.first_no_fewer c.in-Ok.ensures.second_no_fewer (c.run_between.ensures.disk_fault e)
