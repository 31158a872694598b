use Rattle.std.proofs.Common.{subst}
use Rattle.racroute.specs.Core.{Core}
use Rattle.racroute.specs.Disks.{StaysAlong}
use Rattle.racroute.proofs.Standing.{stands_now}
use Rattle.racroute.proofs.office.Office.is_on_disks.Goals as goal

pub returns-clause-stand : goal.returns-clause-stand
returns-clause-stand g c =
    let D = g.row.D.Denot in
    let o = c.self.inside in
    let core : Core D = record { events = o.publisher.events; position = o.desk.position; store = o.desk.store; doubt = o.doubt; passes = o.passes; decks = o.rest } in
    stands_now g.D.Disk.tells g.J.Naming.base core c.args.self.now c.self.view_is c.self.invariant.4.position c.self.invariant.4.stand

pub returns-clause-moments : goal.returns-clause-moments
returns-clause-moments g c =
    let D = g.row.D.Denot in
    subst (λ (k : Core D). StaysAlong g.J.Naming.base k.events g.J.Naming.idle_disk g.J.Naming.live_disk (g.D.Disk.tells k.store.journal.disk))
    c.self.view_is c.self.invariant.4.moments
