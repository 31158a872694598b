-- The moments of a write of the head gate and its sync.
use Rattle.std.proofs.Common.{◌≡◌, [], ◌∷◌, Some}
use Rattle.racf_outside.specs.Disk.{History}
use Rattle.racf_outside.specs.Moments.{durable, written, synced}
use Rattle.racf_outside.proofs.Runs.{starts, ok, err, ends, now}
use Rattle.checkpoint_disks.specs.Compacting.{IsOpening, with_head}
use Rattle.checkpoint_disks.proofs.HeadGates.{opens}
use Rattle.checkpoint_disks.proofs.writing.open_head.Goals as goal

pub returns-in_err-write_at-clause-moments : goal.returns-in_err-write_at-clause-moments
returns-in_err-write_at-clause-moments g c body holds =
    let l = λ (h : History) (e : g.D.Disk.tells c.args.disk.now ≡ Some h). opens body h.now (holds h e) in
    err (written 8 (1 ∷ [])) (starts (IsOpening body) _ (λ h e. (l h e).first)) c.in_err-write_at.ensures.failed (λ h e. (l h e).opened)

pub returns-in_err-sync-clause-moments : goal.returns-in_err-sync-clause-moments
returns-in_err-sync-clause-moments g c body holds =
    let l = λ (h : History) (e : g.D.Disk.tells c.args.disk.now ≡ Some h). opens body h.now (holds h e) in
    err (λ m. m) (ok (written 8 (1 ∷ [])) (starts (IsOpening body) _ (λ h e. (l h e).first)) c.in_ok-write_at.ensures.done (λ h e. (l h e).opened)) c.in_err-sync.ensures.failed (λ h e. (l h e).opened)

pub returns-clause-moments : goal.returns-clause-moments
returns-clause-moments g c body holds =
    let l = λ (h : History) (e : g.D.Disk.tells c.args.disk.now ≡ Some h). opens body h.now (holds h e) in
    ends (ok (synced) (ok (written 8 (1 ∷ [])) (starts (IsOpening body) _ (λ h e. (l h e).first)) c.in_ok-write_at.ensures.done (λ h e. (l h e).opened)) c.in_ok-sync.ensures.done (λ h e. (l h e).kept))

pub returns-clause-done : goal.returns-clause-done
returns-clause-done g c body holds =
    let l = λ (h : History) (e : g.D.Disk.tells c.args.disk.now ≡ Some h). opens body h.now (holds h e) in
    now (λ m. m ≡ durable (with_head 1 body)) (ok (synced) (ok (written 8 (1 ∷ [])) (starts (IsOpening body) _ (λ h e. (l h e).first)) c.in_ok-write_at.ensures.done (λ h e. (l h e).opened)) c.in_ok-sync.ensures.done (λ h e. (l h e).kept)) (λ h e. (l h e).held)
