use Rattle.std.proofs.Common.{◌≡◌, ◌<◌, length, [], None, refl, ap, arith, rules}
use Rattle.desk_rules.specs.Durable.{idle_of}
use Rattle.racroute.proofs.Closing.{live_is, idle_is, faults_are}
use Rattle.racf_threads.proofs.Parts.{idle_over}
use Rattle.racf_threads.proofs.Rests.{rests, rested}
use Rattle.racf_threads.proofs.begin.unbegun.Goals as goal

pub returns-clause-together : goal.returns-clause-together
returns-clause-together g c = λ decks issuing some.
    let outs = c.args.outs.ok.0 in
    let there : 0 < length c.args.outs.items = omega (arith, outs, some) in
    idle_over g.I.Source.left g.I.Source.faults g.K.Sink.taken g.K.Sink.faults c.args.desk.position issuing decks c.args.outs.items c.args.outs.items _ c.new-accepted.result.items None there refl refl (search rules) refl

pub returns-clause-disks : goal.returns-clause-disks
returns-clause-disks g c =
    let none : c.new-accepted.result.items ≡ [] = search rules in
    rw none (rests g.D.Disk.tells c.args.desk.store c.into_disks-disks.result.first c.into_disks-disks.result.second c.args.desk.position c.into_disks-disks.ensures.first c.into_disks-disks.ensures.second (c.is_at_rest.ensures c.requires.running))

pub returns-clause-moments : goal.returns-clause-moments
returns-clause-moments g c =
    let none : c.new-accepted.result.items ≡ [] = search rules in
    rw none (rested g.D.Disk.tells c.args.desk.store c.into_disks-disks.result.first c.into_disks-disks.result.second c.args.desk.position c.into_disks-disks.ensures.first c.into_disks-disks.ensures.second (c.is_at_rest.ensures c.requires.running))

pub returns-clause-idle : goal.returns-clause-idle
returns-clause-idle g c =
    idle_is g.D.Disk.tells c.args.desk.store (idle_of g.D.Disk.tells c.args.desk.store) c.into_disks-disks.result.first c.into_disks-disks.result.second refl c.into_disks-disks.ensures.first c.into_disks-disks.ensures.second

pub returns-clause-faults : goal.returns-clause-faults
returns-clause-faults g c =
    ap g.D.Disk.faults (live_is g.D.Disk.tells c.args.desk.store (idle_of g.D.Disk.tells c.args.desk.store) c.into_disks-disks.result.first c.into_disks-disks.result.second refl c.into_disks-disks.ensures.first c.into_disks-disks.ensures.second)

pub returns-clause-idle_faults : goal.returns-clause-idle_faults
returns-clause-idle_faults g c =
    faults_are g.D.Disk.tells g.D.Disk.faults c.args.desk.store (idle_of g.D.Disk.tells c.args.desk.store) c.into_disks-disks.result.first c.into_disks-disks.result.second _ refl c.into_disks-disks.ensures.first c.into_disks-disks.ensures.second refl
