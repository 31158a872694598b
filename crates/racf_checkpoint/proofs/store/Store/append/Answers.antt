-- The append is the journal's, on the disk that counts.
use Rattle.std.proofs.Common.{◌+◌, ◌≤◌, ◌^◌, length, inl}
use Rattle.racf_checkpoint.proofs.Appending.{within, room_or_same, append_moments, append_stored, append_ready}
use Rattle.racf_checkpoint.proofs.Saying.{RecordsAreRead}
use Rattle.racf_checkpoint.proofs.store.Store.append.Goals as goal

pub returns-in_err-append-clause-moments : goal.returns-in_err-append-clause-moments
returns-in_err-append-clause-moments g c =
    let fits = room_or_same (g.D.Disk.tells) c.self.inside.journal.gate (length c.args.bytes.now) c.in_err-append.field-0.0 c.append.new.self c.self.inside.journal c.in_err-append.ensures.full.1 c.in_err-append.ensures.kept in
    let law : RecordsAreRead = record { says = c.records_are_read_behind_an_image.ensures.says; counts = c.records_are_read_behind_an_image.ensures.counts } in
    rw (← c.self.view_is) (λ kept stores. append_moments c.self.inside.epoch c.self.inside.journal.start c.self.inside.journal.gate c.args.bytes.now (g.D.Disk.tells c.self.inside.journal.disk) (g.D.Disk.tells c.append.new.self.disk) c.append.ensures.moments law c.self.inside.side (g.D.Disk.tells c.self.inside.idle) kept stores.live stores.idle fits)

pub returns-clause-moments : goal.returns-clause-moments
returns-clause-moments g c =
    let fits : c.self.inside.journal.gate + 2 + length c.args.bytes.now ≤ 2 ^ 28 = within c.self.inside.journal.gate (length c.args.bytes.now) c.in_ok-append.field-0 c.in_ok-append.ensures.full.1 in
    let law : RecordsAreRead = record { says = c.records_are_read_behind_an_image.ensures.says; counts = c.records_are_read_behind_an_image.ensures.counts } in
    rw (← c.self.view_is) (λ kept stores. append_moments c.self.inside.epoch c.self.inside.journal.start c.self.inside.journal.gate c.args.bytes.now (g.D.Disk.tells c.self.inside.journal.disk) (g.D.Disk.tells c.append.new.self.disk) c.append.ensures.moments law c.self.inside.side (g.D.Disk.tells c.self.inside.idle) kept stores.live stores.idle (inl fits))

pub returns-clause-acknowledged : goal.returns-clause-acknowledged
returns-clause-acknowledged g c =
    let fits : c.self.inside.journal.gate + 2 + length c.args.bytes.now ≤ 2 ^ 28 = within c.self.inside.journal.gate (length c.args.bytes.now) c.in_ok-append.field-0 c.in_ok-append.ensures.full.1 in
    rw (← c.self.view_is) (λ kept stores. record {
      live = append_stored c.self.inside.epoch c.self.inside.journal.start c.self.inside.journal.gate c.args.bytes.now (g.D.Disk.tells c.self.inside.journal.disk) (g.D.Disk.tells c.append.new.self.disk) c.append.ensures.moments c.in_ok-append.ensures.acknowledged c.append.new.self.start c.append.new.self.gate c.append.ensures.start c.in_ok-append.ensures.gate fits kept stores.live;
      idle = stores.idle;
    })

pub returns-clause-ready : goal.returns-clause-ready
returns-clause-ready g c =
    let fits : c.self.inside.journal.gate + 2 + length c.args.bytes.now ≤ 2 ^ 28 = within c.self.inside.journal.gate (length c.args.bytes.now) c.in_ok-append.field-0 c.in_ok-append.ensures.full.1 in
    let ready = rw (← c.self.view_is) at c.requires.ready in
    record {
      live = append_ready c.self.inside.epoch c.self.inside.journal.start c.self.inside.journal.gate c.args.bytes.now (g.D.Disk.tells c.self.inside.journal.disk) (g.D.Disk.tells c.append.new.self.disk) c.append.ensures.moments c.in_ok-append.ensures.acknowledged c.append.new.self.start c.append.new.self.gate c.append.ensures.start c.in_ok-append.ensures.gate fits ready.live;
      idle = ready.idle;
    }
