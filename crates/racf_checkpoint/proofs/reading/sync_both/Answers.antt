-- A disk that was synced says what was possible before, and so does one whose sync failed.
use Rattle.racf_checkpoint.proofs.Syncing.{nothing_stays, failed_stays, synced_stays}
use Rattle.racf_checkpoint.proofs.reading.sync_both.Goals as goal

pub returns-in_err-sync-clause-moments : goal.returns-in_err-sync-clause-moments
returns-in_err-sync-clause-moments g c = (failed_stays (g.D.Disk.tells c.args.first.now) _ c.in_err-sync.ensures.failed, nothing_stays (g.D.Disk.tells c.args.second.now))

pub returns-in_err-sync-2-clause-moments : goal.returns-in_err-sync-2-clause-moments
returns-in_err-sync-2-clause-moments g c = (
  synced_stays (g.D.Disk.tells c.args.first.now) _ (record { was_left = g.met.D.Disk.reads_an_image c.args.first.now; is = c.in_ok-sync.ensures.done }),
  failed_stays (g.D.Disk.tells c.args.second.now) _ c.in_err-sync-2.ensures.failed,
)

pub returns-clause-moments : goal.returns-clause-moments
returns-clause-moments g c = (
  synced_stays (g.D.Disk.tells c.args.first.now) _ (record { was_left = g.met.D.Disk.reads_an_image c.args.first.now; is = c.in_ok-sync.ensures.done }),
  synced_stays (g.D.Disk.tells c.args.second.now) _ (record { was_left = g.met.D.Disk.reads_an_image c.args.second.now; is = c.in_ok-sync-2.ensures.done }),
)
