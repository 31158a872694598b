-- The opening is the journal's, on the disk that counts.
use Rattle.checkpoint_disks.specs.Files.{CheckpointRead}
use Rattle.racf_checkpoint.proofs.Finding.{open_stays, opened_stored}
use Rattle.racf_checkpoint.proofs.Saying.{RecordsAreRead}
use Rattle.racf_checkpoint.proofs.Turning.{stays_back}
use Rattle.racf_checkpoint.proofs.found.FoundStore.open.Goals as goal

pub returns-in-Ok-clause-stores : goal.returns-in-Ok-clause-stores
returns-in-Ok-clause-stores g c =
    let a = c.self.inside in
    let law : RecordsAreRead = record { says = c.records_are_read_behind_an_image.ensures.says; counts = c.records_are_read_behind_an_image.ensures.counts } in
    let kept : CheckpointRead = record { epoch = a.epoch; number = a.number; rows = a.rows.value; start = a.journal.start; records = a.journal.records; gate = a.journal.gate } in
    rw (← c.self.view_is) (record {
      live = opened_stored law kept (g.D.Disk.tells a.journal.disk) (g.D.Disk.tells a.idle) (g.D.Disk.tells c.in-Ok.journal.disk) a.side c.in-Ok.journal.start c.in-Ok.journal.gate c.self.invariant c.in-Ok.ensures.start c.in-Ok.ensures.gate c.in-Ok.ensures.rest;
      idle = c.self.invariant.passed;
    })

pub returns-in-Ok-clause-ready : goal.returns-in-Ok-clause-ready
returns-in-Ok-clause-ready g c =
    let a = c.self.inside in
    let law : RecordsAreRead = record { says = c.records_are_read_behind_an_image.ensures.says; counts = c.records_are_read_behind_an_image.ensures.counts } in
    let kept : CheckpointRead = record { epoch = a.epoch; number = a.number; rows = a.rows.value; start = a.journal.start; records = a.journal.records; gate = a.journal.gate } in
    record {
      live = λ h e. (kept, opened_stored law kept (g.D.Disk.tells a.journal.disk) (g.D.Disk.tells a.idle) (g.D.Disk.tells c.in-Ok.journal.disk) a.side c.in-Ok.journal.start c.in-Ok.journal.gate c.self.invariant c.in-Ok.ensures.start c.in-Ok.ensures.gate c.in-Ok.ensures.rest h e);
      idle = c.self.invariant.passed;
    }

pub returns-in-Ok-clause-moments : goal.returns-in-Ok-clause-moments
returns-in-Ok-clause-moments g c =
    let a = c.self.inside in
    let law : RecordsAreRead = record { says = c.records_are_read_behind_an_image.ensures.says; counts = c.records_are_read_behind_an_image.ensures.counts } in
    let kept : CheckpointRead = record { epoch = a.epoch; number = a.number; rows = a.rows.value; start = a.journal.start; records = a.journal.records; gate = a.journal.gate } in
    rw (← c.self.view_is) (open_stays law kept c.self.invariant.lawful.image (g.D.Disk.tells a.journal.disk) (g.D.Disk.tells c.in-Ok.journal.disk) c.self.invariant.holds c.in-Ok.ensures.moments)

pub returns-in-Err-clause-moments : goal.returns-in-Err-clause-moments
returns-in-Err-clause-moments g c =
    let a = c.self.inside in
    let law : RecordsAreRead = record { says = c.records_are_read_behind_an_image.ensures.says; counts = c.records_are_read_behind_an_image.ensures.counts } in
    let kept : CheckpointRead = record { epoch = a.epoch; number = a.number; rows = a.rows.value; start = a.journal.start; records = a.journal.records; gate = a.journal.gate } in
    rw (← c.self.view_is) (stays_back g.D.Disk.tells (g.D.Disk.tells a.journal.disk) a.side c.in-Err.live a.idle c.in_order.result.first c.in_order.result.second c.in_order.ensures.first c.in_order.ensures.second
    (open_stays law kept c.self.invariant.lawful.image (g.D.Disk.tells a.journal.disk) (g.D.Disk.tells c.in-Err.live) c.self.invariant.holds c.in-Err.ensures.moments))
