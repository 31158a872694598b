-- What was read behind the syncs was there before.
use Rattle.std.proofs.Common.{◌≡◌, Err, rules}
use Rattle.racf_checkpoint.specs.Contents.{Refuses}
use Rattle.racf_checkpoint.proofs.Finding.{both_before}
use Rattle.racf_checkpoint.proofs.Syncing.{stays_same}
use Rattle.racf_checkpoint.proofs.reading.read_disks.Goals as goal

pub returns-in_err-seen-clause-fault : goal.returns-in_err-seen-clause-fault
returns-in_err-seen-clause-fault g c =
    let why = c.in_err-seen.field-0.0 in
    let is : c.from_residual-in_err-seen.result ≡ Err why = search rules in
    rw is (both_before (g.D.Disk.tells c.args.first.now) (g.D.Disk.tells c.sync_both.new.first) (g.D.Disk.tells c.args.second.now) (g.D.Disk.tells c.sync_both.new.second) (Refuses why) c.in_ok-sync_both.ensures.synced.0 c.in_ok-sync_both.ensures.synced.1 c.in_err-seen.ensures.fault)

pub returns-clause-moments : goal.returns-clause-moments
returns-clause-moments g c = (
  stays_same (g.D.Disk.tells c.args.first.now) (g.D.Disk.tells c.sync_both.new.first) (g.D.Disk.tells c.look.new.first) c.sync_both.ensures.moments.0 c.look.ensures.kept.0,
  stays_same (g.D.Disk.tells c.args.second.now) (g.D.Disk.tells c.sync_both.new.second) (g.D.Disk.tells c.look.new.second) c.sync_both.ensures.moments.1 c.look.ensures.kept.1,
)
