-- The moments of a write of an open head gate and its sync.
use Rattle.std.proofs.Common.{◌≡◌, ◌∙◌, true, [], ◌∷◌, Some, sym, rules}
use Rattle.racf_outside.specs.Disk.{History}
use Rattle.racf_outside.specs.Moments.{written, synced}
use Rattle.racf_outside.proofs.Runs.{starts, same_told, ok, err, ends}
use Rattle.checkpoint_disks.specs.Baring.{IsBaring}
use Rattle.checkpoint_disks.proofs.Barings.{shuts, still_leaves}
use Rattle.checkpoint_disks.proofs.baring.close_open.Goals as goal

pub returns-in_err-opened-clause-moments : goal.returns-in_err-opened-clause-moments
returns-in_err-opened-clause-moments g c before holds =
    ends (same_told (starts (IsBaring before) _ (λ h e. still_leaves before h.now (c.requires.still h e) (holds h e))) c.in_err-opened.ensures.kept)

pub returns-then-not-opened-clause-moments : goal.returns-then-not-opened-clause-moments
returns-then-not-opened-clause-moments g c before holds =
    ends (same_told (starts (IsBaring before) _ (λ h e. still_leaves before h.now (c.requires.still h e) (holds h e))) c.in_ok-opened.ensures.kept)

pub returns-in_err-write_at-clause-moments : goal.returns-in_err-write_at-clause-moments
returns-in_err-write_at-clause-moments g c before holds =
    let opened : c.in_ok-opened.opened ≡ true = search rules in
    let l = λ (h : History) (e : g.D.Disk.tells c.args.disk.now ≡ Some h). shuts before h.now (c.requires.still h e) (holds h e) (sym (c.in_ok-opened.ensures.value h e) ∙ opened) in
    err (written 8 (0 ∷ [])) (same_told (starts (IsBaring before) _ (λ h e. (l h e).first)) c.in_ok-opened.ensures.kept) c.in_err-write_at.ensures.failed (λ h e. (l h e).closed)

pub returns-in_err-sync-clause-moments : goal.returns-in_err-sync-clause-moments
returns-in_err-sync-clause-moments g c before holds =
    let opened : c.in_ok-opened.opened ≡ true = search rules in
    let l = λ (h : History) (e : g.D.Disk.tells c.args.disk.now ≡ Some h). shuts before h.now (c.requires.still h e) (holds h e) (sym (c.in_ok-opened.ensures.value h e) ∙ opened) in
    err (λ m. m) (ok (written 8 (0 ∷ [])) (same_told (starts (IsBaring before) _ (λ h e. (l h e).first)) c.in_ok-opened.ensures.kept) c.in_ok-write_at.ensures.done (λ h e. (l h e).closed)) c.in_err-sync.ensures.failed (λ h e. (l h e).closed)

pub returns-clause-moments : goal.returns-clause-moments
returns-clause-moments g c before holds =
    let opened : c.in_ok-opened.opened ≡ true = search rules in
    let l = λ (h : History) (e : g.D.Disk.tells c.args.disk.now ≡ Some h). shuts before h.now (c.requires.still h e) (holds h e) (sym (c.in_ok-opened.ensures.value h e) ∙ opened) in
    ends (ok synced (ok (written 8 (0 ∷ [])) (same_told (starts (IsBaring before) _ (λ h e. (l h e).first)) c.in_ok-opened.ensures.kept) c.in_ok-write_at.ensures.done (λ h e. (l h e).closed)) c.in_ok-sync.ensures.done (λ h e. (l h e).kept))
