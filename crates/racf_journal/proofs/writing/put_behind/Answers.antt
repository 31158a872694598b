-- The moments of four calls: what was written is on the disk before the gate is opened.
use Rattle.std.proofs.Common.{◌+◌, ◌≡◌, [], ◌∷◌, ◌++◌, length, Some}
use Rattle.racf_outside.specs.Disk.{History}
use Rattle.racf_outside.specs.Moments.{written, synced}
use Rattle.racf_outside.proofs.Runs.{starts, ok, err, ends, now}
use Rattle.racf_journal.specs.Kept.{IsAtRest, IsAppended}
use Rattle.racf_journal.proofs.Appends.{appends}
use Rattle.racf_journal.proofs.writing.put_behind.Goals as goal

pub returns-in_err-write_at-clause-moments : goal.returns-in_err-write_at-clause-moments
returns-in_err-write_at-clause-moments g c start next is same front records keeps =
    let l = λ (h : History) (e : g.D.Disk.tells c.args.disk.now ≡ Some h). appends front start c.args.gate records next c.args.bytes.now h.now is same (keeps h e) in
    err (written (c.args.gate + 1) c.args.bytes.now) (starts (IsAppended front records next c.args.gate) _ (λ h e. (l h e).before)) c.in_err-write_at.ensures.failed (λ h e. (l h e).behind)

pub returns-in_err-sync-clause-moments : goal.returns-in_err-sync-clause-moments
returns-in_err-sync-clause-moments g c start next is same front records keeps =
    let l = λ (h : History) (e : g.D.Disk.tells c.args.disk.now ≡ Some h). appends front start c.args.gate records next c.args.bytes.now h.now is same (keeps h e) in
    err (λ m. m) (ok (written (c.args.gate + 1) c.args.bytes.now) (starts (IsAppended front records next c.args.gate) _ (λ h e. (l h e).before)) c.in_ok-write_at.ensures.done (λ h e. (l h e).behind)) c.in_err-sync.ensures.failed (λ h e. (l h e).behind)

pub returns-in_err-write_at-2-clause-moments : goal.returns-in_err-write_at-2-clause-moments
returns-in_err-write_at-2-clause-moments g c start next is same front records keeps =
    let l = λ (h : History) (e : g.D.Disk.tells c.args.disk.now ≡ Some h). appends front start c.args.gate records next c.args.bytes.now h.now is same (keeps h e) in
    err (written c.args.gate (1 ∷ [])) (ok (synced) (ok (written (c.args.gate + 1) c.args.bytes.now) (starts (IsAppended front records next c.args.gate) _ (λ h e. (l h e).before)) c.in_ok-write_at.ensures.done (λ h e. (l h e).behind)) c.in_ok-sync.ensures.done (λ h e. (l h e).staged)) c.in_err-write_at-2.ensures.failed (λ h e. (l h e).opened)

pub returns-in_err-sync-2-clause-moments : goal.returns-in_err-sync-2-clause-moments
returns-in_err-sync-2-clause-moments g c start next is same front records keeps =
    let l = λ (h : History) (e : g.D.Disk.tells c.args.disk.now ≡ Some h). appends front start c.args.gate records next c.args.bytes.now h.now is same (keeps h e) in
    err (λ m. m) (ok (written c.args.gate (1 ∷ [])) (ok (synced) (ok (written (c.args.gate + 1) c.args.bytes.now) (starts (IsAppended front records next c.args.gate) _ (λ h e. (l h e).before)) c.in_ok-write_at.ensures.done (λ h e. (l h e).behind)) c.in_ok-sync.ensures.done (λ h e. (l h e).staged)) c.in_ok-write_at-2.ensures.done (λ h e. (l h e).opened)) c.in_err-sync-2.ensures.failed (λ h e. (l h e).opened)

pub returns-clause-moments : goal.returns-clause-moments
returns-clause-moments g c start next is same front records keeps =
    let l = λ (h : History) (e : g.D.Disk.tells c.args.disk.now ≡ Some h). appends front start c.args.gate records next c.args.bytes.now h.now is same (keeps h e) in
    ends (ok (synced) (ok (written c.args.gate (1 ∷ [])) (ok (synced) (ok (written (c.args.gate + 1) c.args.bytes.now) (starts (IsAppended front records next c.args.gate) _ (λ h e. (l h e).before)) c.in_ok-write_at.ensures.done (λ h e. (l h e).behind)) c.in_ok-sync.ensures.done (λ h e. (l h e).staged)) c.in_ok-write_at-2.ensures.done (λ h e. (l h e).opened)) c.in_ok-sync-2.ensures.done (λ h e. (l h e).ended))

pub returns-clause-acknowledged : goal.returns-clause-acknowledged
returns-clause-acknowledged g c start next is same front records keeps =
    let l = λ (h : History) (e : g.D.Disk.tells c.args.disk.now ≡ Some h). appends front start c.args.gate records next c.args.bytes.now h.now is same (keeps h e) in
    now (IsAtRest front start (c.args.gate + 1 + length next) (records ++ next ∷ [])) (ok (synced) (ok (written c.args.gate (1 ∷ [])) (ok (synced) (ok (written (c.args.gate + 1) c.args.bytes.now) (starts (IsAppended front records next c.args.gate) _ (λ h e. (l h e).before)) c.in_ok-write_at.ensures.done (λ h e. (l h e).behind)) c.in_ok-sync.ensures.done (λ h e. (l h e).staged)) c.in_ok-write_at-2.ensures.done (λ h e. (l h e).opened)) c.in_ok-sync-2.ensures.done (λ h e. (l h e).ended)) (λ h e. (l h e).rests)
