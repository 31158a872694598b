-- The moments of the cut, the write and their syncs.
use Rattle.std.proofs.Common.{◌≡◌, [], Some}
use Rattle.racf_outside.specs.Disk.{History}
use Rattle.racf_outside.specs.Moments.{durable, written, cut_to, synced}
use Rattle.racf_outside.proofs.Runs.{starts, ok, err, ends, now}
use Rattle.checkpoint_disks.specs.Baring.{SaysNothing}
use Rattle.checkpoint_disks.specs.Compacting.{with_head}
use Rattle.checkpoint_disks.proofs.Barings.{bares}
use Rattle.checkpoint_disks.proofs.baring.write_bare.Goals as goal

pub returns-in_err-cut-clause-moments : goal.returns-in_err-cut-clause-moments
returns-in_err-cut-clause-moments g c =
    let l = λ (h : History) (e : g.D.Disk.tells c.args.disk.now ≡ Some h). bares h.now (c.requires.closed h e) in
    err (cut_to 9) (starts SaysNothing _ (λ h e. (l h e).first)) c.in_err-cut.ensures.failed (λ h e. (l h e).cut)

pub returns-in_err-sync-clause-moments : goal.returns-in_err-sync-clause-moments
returns-in_err-sync-clause-moments g c =
    let l = λ (h : History) (e : g.D.Disk.tells c.args.disk.now ≡ Some h). bares h.now (c.requires.closed h e) in
    err (λ m. m) (ok (cut_to 9) (starts SaysNothing _ (λ h e. (l h e).first)) c.in_ok-cut.ensures.done (λ h e. (l h e).cut)) c.in_err-sync.ensures.failed (λ h e. (l h e).cut)

pub returns-in_err-write_at-clause-moments : goal.returns-in_err-write_at-clause-moments
returns-in_err-write_at-clause-moments g c =
    let l = λ (h : History) (e : g.D.Disk.tells c.args.disk.now ≡ Some h). bares h.now (c.requires.closed h e) in
    err (written 0 (with_head 0 [])) (ok synced (ok (cut_to 9) (starts SaysNothing _ (λ h e. (l h e).first)) c.in_ok-cut.ensures.done (λ h e. (l h e).cut)) c.in_ok-sync.ensures.done (λ h e. (l h e).kept)) c.in_err-write_at.ensures.failed (λ h e. (l h e).put)

pub returns-in_err-sync-2-clause-moments : goal.returns-in_err-sync-2-clause-moments
returns-in_err-sync-2-clause-moments g c =
    let l = λ (h : History) (e : g.D.Disk.tells c.args.disk.now ≡ Some h). bares h.now (c.requires.closed h e) in
    err (λ m. m) (ok (written 0 (with_head 0 [])) (ok synced (ok (cut_to 9) (starts SaysNothing _ (λ h e. (l h e).first)) c.in_ok-cut.ensures.done (λ h e. (l h e).cut)) c.in_ok-sync.ensures.done (λ h e. (l h e).kept)) c.in_ok-write_at.ensures.done (λ h e. (l h e).put)) c.in_err-sync-2.ensures.failed (λ h e. (l h e).put)

pub returns-clause-moments : goal.returns-clause-moments
returns-clause-moments g c =
    let l = λ (h : History) (e : g.D.Disk.tells c.args.disk.now ≡ Some h). bares h.now (c.requires.closed h e) in
    ends (ok synced (ok (written 0 (with_head 0 [])) (ok synced (ok (cut_to 9) (starts SaysNothing _ (λ h e. (l h e).first)) c.in_ok-cut.ensures.done (λ h e. (l h e).cut)) c.in_ok-sync.ensures.done (λ h e. (l h e).kept)) c.in_ok-write_at.ensures.done (λ h e. (l h e).put)) c.in_ok-sync-2.ensures.done (λ h e. (l h e).ended))

pub returns-clause-done : goal.returns-clause-done
returns-clause-done g c =
    let l = λ (h : History) (e : g.D.Disk.tells c.args.disk.now ≡ Some h). bares h.now (c.requires.closed h e) in
    now (λ m. m ≡ durable (with_head 0 [])) (ok synced (ok (written 0 (with_head 0 [])) (ok synced (ok (cut_to 9) (starts SaysNothing _ (λ h e. (l h e).first)) c.in_ok-cut.ensures.done (λ h e. (l h e).cut)) c.in_ok-sync.ensures.done (λ h e. (l h e).kept)) c.in_ok-write_at.ensures.done (λ h e. (l h e).put)) c.in_ok-sync-2.ensures.done (λ h e. (l h e).ended)) (λ h e. (l h e).is)
