use Rattle.std.proofs.Common.{inl, inr, refl, sym, ◌∙◌, subst, map, string_bytes}
use Rattle.std.proofs.Math.Nat.{le_trans}
use Rattle.racf_outside.proofs.Rises.{Rose-later}
use Rattle.racf_run.proofs.OpeningLaws.{AreNew-moved}
use Rattle.racf_run.proofs.RunningLaws.{input_of, output_of, unopened_ends, opens_none}
use Rattle.checkpoint_disks.specs.declared.counting.Side.TheVariants.{First, Second}
use Rattle.racf_checkpoint.specs.Stored.{disk_on}
use Rattle.racf_run.specs.Racf.{IsUnsound, AreNoMore, fault_counts}
use Rattle.racf_run.proofs.Unsound.{unopened_sound, no_memory_sound}
use Rattle.racf_run.proofs.DiskLaws.{stands_still}
use Rattle.racf_run.proofs.running.run_between.Goals as goal

-- there was no memory for the list of files
pub returns-in_default-clause-runs : goal.returns-in_default-clause-runs
returns-in_default-clause-runs g c before no_more =
    inl (record {
      stands = stands_still g.D.Disk.tells c.args.desk c.into_disks.result.first c.into_disks.result.second (record { first = c.into_disks.ensures.first; second = c.into_disks.ensures.second }) (c.is_at_rest.ensures c.requires.running);
      is_status = refl;
      kept = refl;
    })

-- a file couldn't be opened
pub returns-clause-runs : goal.returns-clause-runs
returns-clause-runs g c before no_more =
    let undone = c.in-Err.ensures.undone in
    inr (inl (record {
      stands = stands_still g.D.Disk.tells c.args.desk c.into_disks-in-Err.result.first c.into_disks-in-Err.result.second (record { first = c.into_disks-in-Err.ensures.first; second = c.into_disks-in-Err.ensures.second }) (c.is_at_rest.ensures c.requires.running);
      why = c.in-Err.why;
      is_status = c.unopened_status.ensures;
      front = undone.front;
      name = undone.name;
      rest = undone.rest;
      in_order = undone.in_order;
      files = undone.files;
      first = undone.before;
      second = undone.between;
      opened = undone.opened;
      failed = undone.failed;
      returned = undone.returned;
      empty = undone.empty;
      others = undone.others;
    }))

pub returns-in_default-clause-sound : goal.returns-in_default-clause-sound
returns-in_default-clause-sound g c = no_memory_sound

pub returns-clause-sound : goal.returns-clause-sound
returns-clause-sound g c = λ e. unopened_sound c.in-Err.why (subst IsUnsound c.unopened_status.ensures e)

pub returns-clause-usage : goal.returns-clause-usage
returns-clause-usage g c = λ e. (unopened_ends c.in-Err.why).0 (sym c.unopened_status.ensures ∙ e)

pub returns-clause-read_fault : goal.returns-clause-read_fault
returns-clause-read_fault g c = λ e. c.in-Err.ensures.undone.read_fault (input_of c.in-Err.why (sym c.unopened_status.ensures ∙ e))

pub returns-clause-write_fault : goal.returns-clause-write_fault
returns-clause-write_fault g c = λ e. c.in-Err.ensures.undone.write_fault (output_of c.in-Err.why (sym c.unopened_status.ensures ∙ e))

pub returns-clause-disk_fault : goal.returns-clause-disk_fault
returns-clause-disk_fault g c = λ e. absurd ((unopened_ends c.in-Err.why).1 (sym c.unopened_status.ensures ∙ e))

-- the inputs tell what they told
pub work_files-requires-clause-new : goal.work_files-requires-clause-new
work_files-requires-clause-new g c κs within =
    let opened = c.in-Ok-open_all.ensures.opened in
    AreNew-moved g.F.In.Source.left g.F.In.Source.faults g.F.Out.Sink.taken g.F.Out.Sink.faults g.F.Shelf.tells (g.F.Shelf.input c.open_all.new.shelf) (g.F.Shelf.input c.args.shelf.now) (map string_bytes c.args.names.now) c.in-Ok-open_all.files.items
    (λ name. sym (opened.inputs name)) opened.new_files

-- the files were worked
pub returns-in-Ok-open_all-clause-runs : goal.returns-in-Ok-open_all-clause-runs
returns-in-Ok-open_all-clause-runs g c before no_more =
    let opened = c.in-Ok-open_all.ensures.opened in
    let worked = c.work_files.ensures in
    let counts : AreNoMore before (fault_counts (g.F.Shelf.source_faults c.open_all.new.shelf) (g.F.Shelf.sink_faults c.open_all.new.shelf) (g.D.Disk.faults (disk_on First c.args.desk.store)) (g.D.Disk.faults (disk_on Second c.args.desk.store))) =
    record { reads = le_trans no_more.reads opened.no_fewer_reads; writes = le_trans no_more.writes opened.no_fewer_writes; first = no_more.first; second = no_more.second } in
    inr (inr (record {
      files = c.in-Ok-open_all.files.items;
      worked = worked.ran.0;
      first = c.open_all.new.shelf;
      opened = opened.calls;
      returned = worked.ran.1;
      ran = worked.ran.2 (g.F.Shelf.input c.args.shelf.now) (g.F.Shelf.output c.args.shelf.now) before counts opened.new_files opened.others;
    }))

pub returns-in-Ok-open_all-clause-read_fault : goal.returns-in-Ok-open_all-clause-read_fault
returns-in-Ok-open_all-clause-read_fault g c = λ e. Rose-later _ _ _ c.in-Ok-open_all.ensures.opened.no_fewer_reads (c.work_files.ensures.read_fault e)

pub returns-in-Ok-open_all-clause-write_fault : goal.returns-in-Ok-open_all-clause-write_fault
returns-in-Ok-open_all-clause-write_fault g c = λ e. Rose-later _ _ _ c.in-Ok-open_all.ensures.opened.no_fewer_writes (c.work_files.ensures.write_fault e)

pub returns-in-Ok-open_all-clause-inputs : goal.returns-in-Ok-open_all-clause-inputs
returns-in-Ok-open_all-clause-inputs g c name = c.work_files.ensures.inputs name ∙ c.in-Ok-open_all.ensures.opened.inputs name

pub returns-in-Ok-open_all-clause-handed_back : goal.returns-in-Ok-open_all-clause-handed_back
returns-in-Ok-open_all-clause-handed_back g c =
    opens_none (map string_bytes c.args.names.now) (g.F.Shelf.is_open c.args.shelf.now) (g.F.Shelf.is_open c.open_all.new.shelf) (g.F.Shelf.is_open c.work_files.new.shelf)
    c.in-Ok-open_all.ensures.opened.others_open c.work_files.ensures.closed
