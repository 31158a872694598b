-- The moments of a write of the last gate and its sync.
use Rattle.std.proofs.Common.{◌+◌, ◌≡◌, [], ◌∷◌, ◌++◌, max, length, Some, arith}
use Rattle.racf_outside.specs.Disk.{History}
use Rattle.racf_outside.specs.Moments.{durable, written, synced}
use Rattle.racf_outside.proofs.Runs.{starts, ok, err, ends, now}
use Rattle.racf_journal.specs.Repair.{EndsWithin}
use Rattle.racf_journal.proofs.Repairs.{closes}
use Rattle.racf_journal.proofs.repair.close_gate.Goals as goal

pub returns-in_err-write_at-clause-moments : goal.returns-in_err-write_at-clause-moments
returns-in_err-write_at-clause-moments g c base at holds =
    let l = λ (h : History) (e : g.D.Disk.tells c.args.disk.now ≡ Some h). closes (c.args.gate + max (length c.args.end.now) 1) base c.args.end.now c.args.gate h.now at (omega arith) (holds h e) in
    err (written c.args.gate (0 ∷ [])) (starts (EndsWithin (c.args.gate + max (length c.args.end.now) 1) base) _ (λ h e. (l h e).before)) c.in_err-write_at.ensures.failed (λ h e. (l h e).closed)

pub returns-in_err-sync-clause-moments : goal.returns-in_err-sync-clause-moments
returns-in_err-sync-clause-moments g c base at holds =
    let l = λ (h : History) (e : g.D.Disk.tells c.args.disk.now ≡ Some h). closes (c.args.gate + max (length c.args.end.now) 1) base c.args.end.now c.args.gate h.now at (omega arith) (holds h e) in
    err (λ m. m) (ok (written c.args.gate (0 ∷ [])) (starts (EndsWithin (c.args.gate + max (length c.args.end.now) 1) base) _ (λ h e. (l h e).before)) c.in_ok-write_at.ensures.done (λ h e. (l h e).closed)) c.in_err-sync.ensures.failed (λ h e. (l h e).closed)

pub returns-clause-moments : goal.returns-clause-moments
returns-clause-moments g c base at holds =
    let l = λ (h : History) (e : g.D.Disk.tells c.args.disk.now ≡ Some h). closes (c.args.gate + max (length c.args.end.now) 1) base c.args.end.now c.args.gate h.now at (omega arith) (holds h e) in
    ends (ok (synced) (ok (written c.args.gate (0 ∷ [])) (starts (EndsWithin (c.args.gate + max (length c.args.end.now) 1) base) _ (λ h e. (l h e).before)) c.in_ok-write_at.ensures.done (λ h e. (l h e).closed)) c.in_ok-sync.ensures.done (λ h e. (l h e).kept))

pub returns-clause-done : goal.returns-clause-done
returns-clause-done g c base at holds =
    let l = λ (h : History) (e : g.D.Disk.tells c.args.disk.now ≡ Some h). closes (c.args.gate + max (length c.args.end.now) 1) base c.args.end.now c.args.gate h.now at (omega arith) (holds h e) in
    now (λ m. m ≡ durable (base ++ 0 ∷ [])) (ok (synced) (ok (written c.args.gate (0 ∷ [])) (starts (EndsWithin (c.args.gate + max (length c.args.end.now) 1) base) _ (λ h e. (l h e).before)) c.in_ok-write_at.ensures.done (λ h e. (l h e).closed)) c.in_ok-sync.ensures.done (λ h e. (l h e).kept)) (λ h e. (l h e).held)
