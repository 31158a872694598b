use Rattle.std.proofs.Common.{sym, ◌∙◌, ap}
use Rattle.command_history.specs.Events.{all_of}
use Rattle.command_history.specs.Reached.{reached}
use Rattle.raclist_snapshots.specs.Publishing.{Publishing, ended_with}
use Rattle.racroute.specs.Core.{Core}
use Rattle.racf_checkpoint.specs.Stored.{pick}
use Rattle.racroute.proofs.Closing.{whole, led, all_begin, stand, stayed, live_is, idle_is, faults_are}
use Rattle.racroute.proofs.office.Office.close.Goals as goal

pub returns-clause-callers : goal.returns-clause-callers
returns-clause-callers g c =
    let o = c.self.inside in
    let all = whole o.doubt o.publisher.events o.past.items c.is_legal.ensures.last c.self.invariant.4.mark c.self.invariant.4.entries_are in
    all_begin o.doubt o.publisher.events c.settle.new.self.events o.past.items c.args.callers.now all (ap (λ (p : Publishing). p.events) c.settle.ensures.ended) c.settle.ensures.callers

pub returns-clause-history : goal.returns-clause-history
returns-clause-history g c =
    let o = c.self.inside in
    whole o.doubt o.publisher.events o.past.items c.is_legal.ensures.last c.self.invariant.4.mark c.self.invariant.4.entries_are
    ∙ ap (λ (k : Core g.row.D.Denot). ended_with k.doubt k.events) c.self.view_is

pub returns-clause-disks : goal.returns-clause-disks
returns-clause-disks g c =
    let o = c.self.inside in
    let all = whole o.doubt o.publisher.events o.past.items c.is_legal.ensures.last c.self.invariant.4.mark c.self.invariant.4.entries_are in
    stand g.D.Disk.tells o.desk.store c.into_disks.result.first c.into_disks.result.second o.doubt o.desk.position (reached g.J.Naming.base (all_of o.past.items o.doubt))
    c.into_disks.ensures.first c.into_disks.ensures.second
    (led g.J.Naming.base o.doubt o.publisher.events o.past.items all ∙ sym c.self.invariant.4.position)
    c.self.invariant.4.stand

pub returns-clause-moments : goal.returns-clause-moments
returns-clause-moments g c =
    let o = c.self.inside in
    let all = whole o.doubt o.publisher.events o.past.items c.is_legal.ensures.last c.self.invariant.4.mark c.self.invariant.4.entries_are in
    stayed g.D.Disk.tells g.J.Naming.base g.J.Naming.idle_disk g.J.Naming.live_disk o.doubt o.publisher.events o.past.items
    o.desk.store.journal.disk (pick g.J.Naming.idle_disk.side c.into_disks.result.first c.into_disks.result.second) all
    (live_is g.D.Disk.tells o.desk.store g.J.Naming.idle_disk c.into_disks.result.first c.into_disks.result.second c.self.invariant.4.idle c.into_disks.ensures.first c.into_disks.ensures.second)
    c.self.invariant.4.moments

pub returns-clause-idle : goal.returns-clause-idle
returns-clause-idle g c =
    let o = c.self.inside in
    idle_is g.D.Disk.tells o.desk.store g.J.Naming.idle_disk c.into_disks.result.first c.into_disks.result.second c.self.invariant.4.idle c.into_disks.ensures.first c.into_disks.ensures.second

pub returns-clause-idle_faults : goal.returns-clause-idle_faults
returns-clause-idle_faults g c =
    let o = c.self.inside in
    faults_are g.D.Disk.tells g.D.Disk.faults o.desk.store g.J.Naming.idle_disk c.into_disks.result.first c.into_disks.result.second _ c.self.invariant.4.idle c.into_disks.ensures.first c.into_disks.ensures.second c.self.invariant.4.idle_faults
