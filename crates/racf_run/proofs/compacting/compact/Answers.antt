use Rattle.std.proofs.Common.{◌+◌, ap, subst, sym, ◌∙◌}
use Rattle.racf_checkpoint.specs.Stored.{StoreOn}
use Rattle.desk_rules.specs.Durable.{LeavesIt, SaysCheckpoint}
use Rattle.desk_rules.specs.Made.{DeskOn}
use Rattle.desk_rules.specs.Position.{compacted}
use Rattle.desk_rules.specs.Recovery.{StandsFor}
use Rattle.racf_run.proofs.CompactLaws.{of_disks, of_disk_fault, of_no_memory, ends_by, written_along, rose_written, no_fewer_written}
use Rattle.racf_run.proofs.DiskLaws.{both_leave, this_side}
use Rattle.racf_run.proofs.compacting.compact.Goals as goal

-- it was written
pub returns-in-Ok-clause-done : goal.returns-in-Ok-clause-done
returns-in-Ok-clause-done g c = λ is low.
    both_leave g.D.Disk.tells c.compact.new.self.store c.into_disks.result.first c.into_disks.result.second (SaysCheckpoint (c.args.desk.store.epoch + 1) c.args.desk.position)
    (record { first = c.into_disks.ensures.first; second = c.into_disks.ensures.second }) (c.in-Ok.ensures.checkpoint low)

pub returns-in-Ok-clause-stands : goal.returns-in-Ok-clause-stands
returns-in-Ok-clause-stands g c = λ is low.
    both_leave g.D.Disk.tells c.compact.new.self.store c.into_disks.result.first c.into_disks.result.second (StandsFor (compacted c.args.desk.position))
    (record { first = c.into_disks.ensures.first; second = c.into_disks.ensures.second })
    (subst (LeavesIt g.D.Disk.tells c.compact.new.self.store) (ap (λ (d : DeskOn _). d.position) (c.in-Ok.ensures.done low)) c.in-Ok.ensures.leaves)

pub returns-in-Ok-clause-last : goal.returns-in-Ok-clause-last
returns-in-Ok-clause-last g c = λ is full.
    both_leave g.D.Disk.tells c.compact.new.self.store c.into_disks.result.first c.into_disks.result.second (StandsFor c.args.desk.position)
    (record { first = c.into_disks.ensures.first; second = c.into_disks.ensures.second })
    (subst (LeavesIt g.D.Disk.tells c.compact.new.self.store) (ap (λ (d : DeskOn _). d.position) (c.in-Ok.ensures.last full)) c.in-Ok.ensures.leaves)

pub returns-in-Ok-clause-moments : goal.returns-in-Ok-clause-moments
returns-in-Ok-clause-moments g c =
    written_along c.args.desk.store c.compact.new.self.store c.into_disks.result.first c.into_disks.result.second
    (record { first = c.into_disks.ensures.first; second = c.into_disks.ensures.second }) g.D.Disk.tells c.args.desk.position c.in-Ok.ensures.moments

pub returns-in-Ok-clause-live : goal.returns-in-Ok-clause-live
returns-in-Ok-clause-live g c =
    this_side c.compact.new.self.store c.args.desk.store.side c.into_disks.result.first c.into_disks.result.second
    (record { first = c.into_disks.ensures.first; second = c.into_disks.ensures.second }) ∙ c.in-Ok.ensures.live

pub returns-in-Ok-clause-no_fewer : goal.returns-in-Ok-clause-no_fewer
returns-in-Ok-clause-no_fewer g c =
    no_fewer_written c.args.desk.store c.compact.new.self.store c.into_disks.result.first c.into_disks.result.second
    (record { first = c.into_disks.ensures.first; second = c.into_disks.ensures.second }) g.D.Disk.faults c.in-Ok.ensures.no_fewer

-- it wasn't
pub returns-in-Err-clause-ends : goal.returns-in-Err-clause-ends
returns-in-Err-clause-ends g c = rw c.opening_status.ensures (ends_by c.in-Err.why c.in-Err.ensures.fault)

pub returns-in-Err-clause-done : goal.returns-in-Err-clause-done
returns-in-Err-clause-done g c = λ is. absurd ((of_disks c.in-Err.why).done (sym c.opening_status.ensures ∙ is))

pub returns-in-Err-clause-stands : goal.returns-in-Err-clause-stands
returns-in-Err-clause-stands g c = λ is. absurd ((of_disks c.in-Err.why).done (sym c.opening_status.ensures ∙ is))

pub returns-in-Err-clause-last : goal.returns-in-Err-clause-last
returns-in-Err-clause-last g c = λ is. absurd ((of_disks c.in-Err.why).done (sym c.opening_status.ensures ∙ is))

-- for want of memory, and the desk is as it was
pub returns-in-Err-clause-memory : goal.returns-in-Err-clause-memory
returns-in-Err-clause-memory g c = λ e.
    let same = c.in-Err.ensures.memory (of_no_memory c.in-Err.why c.in-Err.ensures.fault (sym c.opening_status.ensures ∙ e)) in
    both_leave g.D.Disk.tells c.compact.new.self.store c.into_disks-in-Err.result.first c.into_disks-in-Err.result.second (StandsFor c.args.desk.position)
    (record { first = c.into_disks-in-Err.ensures.first; second = c.into_disks-in-Err.ensures.second })
    (subst (λ (store : StoreOn _). LeavesIt g.D.Disk.tells store c.args.desk.position) (sym (ap (λ (d : DeskOn _). d.store) same)) (c.is_at_rest.ensures c.requires.running))

pub returns-in-Err-clause-moments : goal.returns-in-Err-clause-moments
returns-in-Err-clause-moments g c =
    written_along c.args.desk.store c.compact.new.self.store c.into_disks-in-Err.result.first c.into_disks-in-Err.result.second
    (record { first = c.into_disks-in-Err.ensures.first; second = c.into_disks-in-Err.ensures.second }) g.D.Disk.tells c.args.desk.position c.in-Err.ensures.moments

pub returns-in-Err-clause-live : goal.returns-in-Err-clause-live
returns-in-Err-clause-live g c =
    this_side c.compact.new.self.store c.args.desk.store.side c.into_disks-in-Err.result.first c.into_disks-in-Err.result.second
    (record { first = c.into_disks-in-Err.ensures.first; second = c.into_disks-in-Err.ensures.second }) ∙ c.in-Err.ensures.live

pub returns-in-Err-clause-disk_fault : goal.returns-in-Err-clause-disk_fault
returns-in-Err-clause-disk_fault g c = λ e.
    rose_written c.args.desk.store c.compact.new.self.store c.into_disks-in-Err.result.first c.into_disks-in-Err.result.second
    (record { first = c.into_disks-in-Err.ensures.first; second = c.into_disks-in-Err.ensures.second }) g.D.Disk.faults
    (c.in-Err.ensures.cause (of_disk_fault c.in-Err.why (sym c.opening_status.ensures ∙ e)))

pub returns-in-Err-clause-no_fewer : goal.returns-in-Err-clause-no_fewer
returns-in-Err-clause-no_fewer g c =
    no_fewer_written c.args.desk.store c.compact.new.self.store c.into_disks-in-Err.result.first c.into_disks-in-Err.result.second
    (record { first = c.into_disks-in-Err.ensures.first; second = c.into_disks-in-Err.ensures.second }) g.D.Disk.faults c.in-Err.ensures.no_fewer
