-- The moments of a write of the head gate and its sync, where the gate was open or absent.
use Rattle.std.proofs.Common.{◌≡◌, ◌∙◌, [], ◌∷◌, Some, refl, sym}
use Rattle.racf_outside.specs.Disk.{History}
use Rattle.racf_outside.specs.Moments.{written, synced}
use Rattle.racf_outside.proofs.Runs.{starts, same_told, ok, err, ends, now}
use Rattle.checkpoint_disks.specs.Compacting.{IsClosing, HoldsClosed}
use Rattle.checkpoint_disks.proofs.HeadGates.{closes, reads_held, idle_leaves, anything}
use Rattle.checkpoint_disks.proofs.writing.close_head.Goals as goal

pub returns-in_err-closed-clause-moments : goal.returns-in_err-closed-clause-moments
returns-in_err-closed-clause-moments g c before holds =
    let l = λ (h : History) (e : g.D.Disk.tells c.args.disk.now ≡ Some h). idle_leaves before h.now (c.requires.idle h e) (holds h e) in
    ends (same_told (starts (IsClosing before) _ l) c.in_err-closed.ensures.kept)

pub returns-then-closed-clause-moments : goal.returns-then-closed-clause-moments
returns-then-closed-clause-moments g c before holds =
    let l = λ (h : History) (e : g.D.Disk.tells c.args.disk.now ≡ Some h). idle_leaves before h.now (c.requires.idle h e) (holds h e) in
    ends (same_told (starts (IsClosing before) _ l) c.in_ok-closed.ensures.kept)

pub returns-then-closed-clause-done : goal.returns-then-closed-clause-done
returns-then-closed-clause-done g c h e =
    let told : g.D.Disk.tells c.args.disk.now ≡ Some h = sym c.in_ok-closed.ensures.kept ∙ e in
    reads_held h.now (c.requires.idle h told) (sym (c.in_ok-closed.ensures.value h told) ∙ c.if-closed.true)

pub returns-in_err-write_at-clause-moments : goal.returns-in_err-write_at-clause-moments
returns-in_err-write_at-clause-moments g c before holds =
    let l = λ (h : History) (e : g.D.Disk.tells c.args.disk.now ≡ Some h). closes before h.now (c.requires.idle h e) (holds h e) (sym (c.in_ok-closed.ensures.value h e) ∙ c.if-closed.false) in
    err (written 8 (0 ∷ [])) (same_told (starts (IsClosing before) _ (λ h e. (l h e).first)) c.in_ok-closed.ensures.kept) c.in_err-write_at.ensures.failed (λ h e. (l h e).closed)

pub returns-in_err-sync-clause-moments : goal.returns-in_err-sync-clause-moments
returns-in_err-sync-clause-moments g c before holds =
    let l = λ (h : History) (e : g.D.Disk.tells c.args.disk.now ≡ Some h). closes before h.now (c.requires.idle h e) (holds h e) (sym (c.in_ok-closed.ensures.value h e) ∙ c.if-closed.false) in
    err (λ m. m) (ok (written 8 (0 ∷ [])) (same_told (starts (IsClosing before) _ (λ h e. (l h e).first)) c.in_ok-closed.ensures.kept) c.in_ok-write_at.ensures.done (λ h e. (l h e).closed)) c.in_err-sync.ensures.failed (λ h e. (l h e).closed)

pub returns-clause-moments : goal.returns-clause-moments
returns-clause-moments g c before holds =
    let l = λ (h : History) (e : g.D.Disk.tells c.args.disk.now ≡ Some h). closes before h.now (c.requires.idle h e) (holds h e) (sym (c.in_ok-closed.ensures.value h e) ∙ c.if-closed.false) in
    ends (ok synced (ok (written 8 (0 ∷ [])) (same_told (starts (IsClosing before) _ (λ h e. (l h e).first)) c.in_ok-closed.ensures.kept) c.in_ok-write_at.ensures.done (λ h e. (l h e).closed)) c.in_ok-sync.ensures.done (λ h e. (l h e).kept))

pub returns-clause-done : goal.returns-clause-done
returns-clause-done g c =
    let l = λ (h : History) (e : g.D.Disk.tells c.args.disk.now ≡ Some h). closes h.now.bytes h.now (c.requires.idle h e) refl (sym (c.in_ok-closed.ensures.value h e) ∙ c.if-closed.false) in
    now HoldsClosed (ok synced (ok (written 8 (0 ∷ [])) (same_told (starts (λ file. Unit {0}) _ (λ h e. anything _)) c.in_ok-closed.ensures.kept) c.in_ok-write_at.ensures.done (λ h e. anything _)) c.in_ok-sync.ensures.done (λ h e. anything _)) (λ h e. (l h e).holds)
