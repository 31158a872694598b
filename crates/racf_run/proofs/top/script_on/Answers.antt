use Rattle.std.proofs.Common.{◌≡◌, true, inl, inr, refl, subst}
use Rattle.std.proofs.Math.Nat.{le_trans}
use Rattle.racf_outside.specs.Causes.{Rose}
use Rattle.racf_run.proofs.Unsound.{no_disk_fault, is_neither}
use Rattle.racf_run.proofs.DiskLaws.{HandsBack, ends_on, opens_on, either_later, rose_along, no_fewer_along}
use Rattle.racf_run.proofs.TopLaws.{RunsOnShelf-weaker}
use Rattle.racf_run.specs.Racf.{IsUnsound, EndsAt, EndsOn, RoseEither, opened_on}
use Rattle.racf_run.proofs.top.script_on.Goals as goal

pub returns-in-Ok-clause-runs : goal.returns-in-Ok-clause-runs
returns-in-Ok-clause-runs g c =
    let tells = g.D.Disk.tells in
    let start = c.in-Ok.desk.store in
    let desk = c.script_between-status.result.1 in
    let back : HandsBack desk.store c.into_disks.result.first c.into_disks.result.second = record { first = c.into_disks.ensures.first; second = c.into_disks.ensures.second } in
    let input = g.F.Shelf.input c.args.shelf.now c.args.files.input.now in
    let faults = g.D.Disk.faults in
    let rose : Type 0 = RoseEither (faults c.args.disks.first) (faults c.into_disks.result.first) (faults c.args.disks.second) (faults c.into_disks.result.second) in
    let fault : desk.halted ≡ true → rose =
    λ halts.
    either_later _ _ _ _ _ _ c.in-Ok.ensures.first_no_fewer c.in-Ok.ensures.second_no_fewer
    (rose_along faults c.in-Ok.desk.store desk.store c.into_disks.result.first c.into_disks.result.second
    (record { first = c.into_disks.ensures.first; second = c.into_disks.ensures.second }) c.script_between-status.ensures.idle (c.script_between-status.ensures.halted halts)) in
    inr (record {
      base = c.in-Ok.desk.position;
      stood = c.in-Ok.ensures.stands;
      ran = (
        opened_on tells start,
        opens_on tells start (tells c.args.disks.first) (tells c.args.disks.second) c.in-Ok.ensures.first_moments c.in-Ok.ensures.second_moments c.in-Ok.ensures.joint,
        RunsOnShelf-weaker g.F.Shelf.source_gives g.F.Shelf.sink_gives g.F.Shelf.take_back_gives g.F.Shelf.give_back_gives g.F.Shelf.tells g.F.Shelf.output
            (Rose (g.F.Shelf.source_faults c.args.shelf.now) (g.F.Shelf.source_faults c.script_between-status.new.shelf)) (Rose (g.F.Shelf.sink_faults c.args.shelf.now) (g.F.Shelf.sink_faults c.script_between-status.new.shelf))
            (EndsAt tells c.args.files.issuing c.in-Ok.desk.position input start desk) (EndsOn c.args.files.issuing c.in-Ok.desk.position input (opened_on tells start) (tells c.into_disks.result.first) (tells c.into_disks.result.second) rose) c.in-Ok.desk.position
            (ends_on tells c.args.files.issuing c.in-Ok.desk.position input start desk c.into_disks.result.first c.into_disks.result.second back c.script_between-status.ensures.idle rose fault)
            c.script_between-status.result.0 _ _ c.args.shelf.now c.script_between-status.new.shelf c.script_between-status.ensures.runs,
      );
    })

pub returns-in-Ok-clause-disk_fault : goal.returns-in-Ok-clause-disk_fault
returns-in-Ok-clause-disk_fault g c = λ e.
    either_later _ _ _ _ _ _ c.in-Ok.ensures.first_no_fewer c.in-Ok.ensures.second_no_fewer
    (rose_along g.D.Disk.faults c.in-Ok.desk.store c.script_between-status.result.1.store c.into_disks.result.first c.into_disks.result.second
    (record { first = c.into_disks.ensures.first; second = c.into_disks.ensures.second }) c.script_between-status.ensures.idle (c.script_between-status.ensures.disk_fault e))

pub returns-in-Ok-clause-first_faults : goal.returns-in-Ok-clause-first_faults
returns-in-Ok-clause-first_faults g c =
    le_trans c.in-Ok.ensures.first_no_fewer
    (no_fewer_along g.D.Disk.faults c.in-Ok.desk.store c.script_between-status.result.1.store c.into_disks.result.first c.into_disks.result.second
    (record { first = c.into_disks.ensures.first; second = c.into_disks.ensures.second }) c.script_between-status.ensures.idle c.script_between-status.ensures.disk_faults).0

pub returns-in-Ok-clause-second_faults : goal.returns-in-Ok-clause-second_faults
returns-in-Ok-clause-second_faults g c =
    le_trans c.in-Ok.ensures.second_no_fewer
    (no_fewer_along g.D.Disk.faults c.in-Ok.desk.store c.script_between-status.result.1.store c.into_disks.result.first c.into_disks.result.second
    (record { first = c.into_disks.ensures.first; second = c.into_disks.ensures.second }) c.script_between-status.ensures.idle c.script_between-status.ensures.disk_faults).1

pub returns-in-Ok-clause-only_synced : goal.returns-in-Ok-clause-only_synced
returns-in-Ok-clause-only_synced g c = λ e.
    absurd (is_neither c.script_between-status.result.0 c.script_between-status.ensures.no_other.1 c.script_between-status.ensures.undamaged e)

pub returns-in-Err-clause-runs : goal.returns-in-Err-clause-runs
returns-in-Err-clause-runs g c =
    inl (record {
      unopened =
          record {
            why = c.in-Err.why;
            is_status = c.opening_status.ensures;
            refused = c.in-Err.ensures.fault;
            first_moments = c.in-Err.ensures.first_moments;
            second_moments = c.in-Err.ensures.second_moments;
            joint = c.in-Err.ensures.joint;
            only_synced = c.in-Err.ensures.untouched;
          };
      kept = refl;
    })

pub returns-in-Err-clause-only_synced : goal.returns-in-Err-clause-only_synced
returns-in-Err-clause-only_synced g c = λ e. c.in-Err.ensures.untouched (no_disk_fault c.in-Err.why (subst IsUnsound c.opening_status.ensures e))
