-- The moments of the cut, the writes and the sync.
use Rattle.std.proofs.Common.{◌≡◌, ◌≤◌, ◌++◌, length, Some}
use Rattle.racf_outside.specs.Disk.{History}
use Rattle.racf_outside.specs.Moments.{written, cut_to, synced}
use Rattle.racf_outside.proofs.Runs.{starts, ok, err, ends, now}
use Rattle.checkpoint_disks.specs.Compacting.{IsClosed, HoldsBody}
use Rattle.checkpoint_disks.proofs.Bodies.{writes}
use Rattle.checkpoint_disks.proofs.writing.write_body.Goals as goal

pub returns-in_err-cut-clause-moments : goal.returns-in_err-cut-clause-moments
returns-in_err-cut-clause-moments g c =
    let l = λ (h : History) (e : g.D.Disk.tells c.args.disk.now ≡ Some h). writes c.args.fields.now c.args.rest.now h.now c.requires.fields (c.requires.closed h e) in
    err (cut_to 9) (starts IsClosed _ (λ h e. (l h e).first)) c.in_err-cut.ensures.failed (λ h e. (l h e).cut)

pub write_at-requires : goal.write_at-requires
write_at-requires g c =
    let l = λ (h : History) (e : g.D.Disk.tells c.args.disk.now ≡ Some h). writes c.args.fields.now c.args.rest.now h.now c.requires.fields (c.requires.closed h e) in
    now (λ m. 9 ≤ length m.bytes) (ok (cut_to 9) (starts IsClosed _ (λ h e. (l h e).first)) c.in_ok-cut.ensures.done (λ h e. (l h e).cut)) (λ h e. (l h e).behind)

pub returns-in_err-write_at-clause-moments : goal.returns-in_err-write_at-clause-moments
returns-in_err-write_at-clause-moments g c =
    let l = λ (h : History) (e : g.D.Disk.tells c.args.disk.now ≡ Some h). writes c.args.fields.now c.args.rest.now h.now c.requires.fields (c.requires.closed h e) in
    err (written 9 c.args.fields.now) (ok (cut_to 9) (starts IsClosed _ (λ h e. (l h e).first)) c.in_ok-cut.ensures.done (λ h e. (l h e).cut)) c.in_err-write_at.ensures.failed (λ h e. (l h e).fields)

pub write_at-requires-2 : goal.write_at-requires-2
write_at-requires-2 g c =
    let l = λ (h : History) (e : g.D.Disk.tells c.args.disk.now ≡ Some h). writes c.args.fields.now c.args.rest.now h.now c.requires.fields (c.requires.closed h e) in
    now (λ m. 33 ≤ length m.bytes) (ok (written 9 c.args.fields.now) (ok (cut_to 9) (starts IsClosed _ (λ h e. (l h e).first)) c.in_ok-cut.ensures.done (λ h e. (l h e).cut)) c.in_ok-write_at.ensures.done (λ h e. (l h e).fields)) (λ h e. (l h e).within)

pub returns-in_err-write_at-2-clause-moments : goal.returns-in_err-write_at-2-clause-moments
returns-in_err-write_at-2-clause-moments g c =
    let l = λ (h : History) (e : g.D.Disk.tells c.args.disk.now ≡ Some h). writes c.args.fields.now c.args.rest.now h.now c.requires.fields (c.requires.closed h e) in
    err (written 33 c.args.rest.now) (ok (written 9 c.args.fields.now) (ok (cut_to 9) (starts IsClosed _ (λ h e. (l h e).first)) c.in_ok-cut.ensures.done (λ h e. (l h e).cut)) c.in_ok-write_at.ensures.done (λ h e. (l h e).fields)) c.in_err-write_at-2.ensures.failed (λ h e. (l h e).whole)

pub returns-in_err-sync-clause-moments : goal.returns-in_err-sync-clause-moments
returns-in_err-sync-clause-moments g c =
    let l = λ (h : History) (e : g.D.Disk.tells c.args.disk.now ≡ Some h). writes c.args.fields.now c.args.rest.now h.now c.requires.fields (c.requires.closed h e) in
    err (λ m. m) (ok (written 33 c.args.rest.now) (ok (written 9 c.args.fields.now) (ok (cut_to 9) (starts IsClosed _ (λ h e. (l h e).first)) c.in_ok-cut.ensures.done (λ h e. (l h e).cut)) c.in_ok-write_at.ensures.done (λ h e. (l h e).fields)) c.in_ok-write_at-2.ensures.done (λ h e. (l h e).whole)) c.in_err-sync.ensures.failed (λ h e. (l h e).whole)

pub returns-clause-moments : goal.returns-clause-moments
returns-clause-moments g c =
    let l = λ (h : History) (e : g.D.Disk.tells c.args.disk.now ≡ Some h). writes c.args.fields.now c.args.rest.now h.now c.requires.fields (c.requires.closed h e) in
    ends (ok synced (ok (written 33 c.args.rest.now) (ok (written 9 c.args.fields.now) (ok (cut_to 9) (starts IsClosed _ (λ h e. (l h e).first)) c.in_ok-cut.ensures.done (λ h e. (l h e).cut)) c.in_ok-write_at.ensures.done (λ h e. (l h e).fields)) c.in_ok-write_at-2.ensures.done (λ h e. (l h e).whole)) c.in_ok-sync.ensures.done (λ h e. (l h e).kept))

pub returns-clause-done : goal.returns-clause-done
returns-clause-done g c =
    let l = λ (h : History) (e : g.D.Disk.tells c.args.disk.now ≡ Some h). writes c.args.fields.now c.args.rest.now h.now c.requires.fields (c.requires.closed h e) in
    now (HoldsBody (c.args.fields.now ++ c.args.rest.now)) (ok synced (ok (written 33 c.args.rest.now) (ok (written 9 c.args.fields.now) (ok (cut_to 9) (starts IsClosed _ (λ h e. (l h e).first)) c.in_ok-cut.ensures.done (λ h e. (l h e).cut)) c.in_ok-write_at.ensures.done (λ h e. (l h e).fields)) c.in_ok-write_at-2.ensures.done (λ h e. (l h e).whole)) c.in_ok-sync.ensures.done (λ h e. (l h e).kept)) (λ h e. (l h e).holds)
