use Rattle.std.proofs.Common.{sym, ◌∙◌}
use Rattle.desk_rules.specs.Position.{first_position}
use Rattle.desk_rules.specs.Recovery.{StandsFor}
use Rattle.racf_run.proofs.CompactLaws.{of_no_memory}
use Rattle.racf_run.proofs.DiskLaws.{both_leave}
use Rattle.racf_run.proofs.top.init.Goals as goal

-- what stands on the desk's disks stands on those that it hands back
pub returns-in-Ok-clause-new : goal.returns-in-Ok-clause-new
returns-in-Ok-clause-new g c = λ is.
    both_leave g.D.Disk.tells c.in-Ok.desk.store c.into_disks.result.first c.into_disks.result.second (StandsFor first_position)
    (record { first = c.into_disks.ensures.first; second = c.into_disks.ensures.second }) c.in-Ok.ensures.leaves

-- for want of memory nothing was done
pub returns-in-Err-clause-memory : goal.returns-in-Err-clause-memory
returns-in-Err-clause-memory g c = λ e. c.in-Err.ensures.memory (of_no_memory c.in-Err.why c.in-Err.ensures.fault (sym c.opening_status.ensures ∙ e))

-- and so are their moments
pub returns-in-Ok-clause-moments : goal.returns-in-Ok-clause-moments
returns-in-Ok-clause-moments g c =
    rw (c.into_disks.ensures.first, c.into_disks.ensures.second) (c.in-Ok.ensures.first_moments, c.in-Ok.ensures.second_moments)
