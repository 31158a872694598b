-- The moments of a cut and its sync.
use Rattle.std.proofs.Common.{◌+◌, ◌≡◌, ◌++◌, max, length, take, Some, sym, ap, arith}
use Rattle.racf_outside.specs.Disk.{History}
use Rattle.racf_outside.specs.Moments.{durable, cut_to, synced}
use Rattle.racf_outside.proofs.Runs.{starts, ok, err, ends, now}
use Rattle.racf_journal.specs.Repair.{EndsWithin}
use Rattle.racf_journal.proofs.Repairs.{cutting}
use Rattle.racf_journal.proofs.repair.cut_behind.Goals as goal

pub returns-in_err-cut-clause-moments : goal.returns-in_err-cut-clause-moments
returns-in_err-cut-clause-moments g c base at holds =
    let l = λ (h : History) (e : g.D.Disk.tells c.args.disk.now ≡ Some h). cutting (c.args.gate + max (length c.args.end.now) 1) base c.args.end.now (c.args.gate + 1) h.now (ap (λ n. n + 1) (sym at)) (omega arith) (omega (arith, at)) c.requires.ends (holds h e) in
    err (cut_to (c.args.gate + 1)) (starts (EndsWithin (c.args.gate + max (length c.args.end.now) 1) base) _ (λ h e. (l h e).before)) c.in_err-cut.ensures.failed (λ h e. (l h e).cut)

pub returns-in_err-sync-clause-moments : goal.returns-in_err-sync-clause-moments
returns-in_err-sync-clause-moments g c base at holds =
    let l = λ (h : History) (e : g.D.Disk.tells c.args.disk.now ≡ Some h). cutting (c.args.gate + max (length c.args.end.now) 1) base c.args.end.now (c.args.gate + 1) h.now (ap (λ n. n + 1) (sym at)) (omega arith) (omega (arith, at)) c.requires.ends (holds h e) in
    err (λ m. m) (ok (cut_to (c.args.gate + 1)) (starts (EndsWithin (c.args.gate + max (length c.args.end.now) 1) base) _ (λ h e. (l h e).before)) c.in_ok-cut.ensures.done (λ h e. (l h e).cut)) c.in_err-sync.ensures.failed (λ h e. (l h e).cut)

pub returns-clause-moments : goal.returns-clause-moments
returns-clause-moments g c base at holds =
    let l = λ (h : History) (e : g.D.Disk.tells c.args.disk.now ≡ Some h). cutting (c.args.gate + max (length c.args.end.now) 1) base c.args.end.now (c.args.gate + 1) h.now (ap (λ n. n + 1) (sym at)) (omega arith) (omega (arith, at)) c.requires.ends (holds h e) in
    ends (ok (synced) (ok (cut_to (c.args.gate + 1)) (starts (EndsWithin (c.args.gate + max (length c.args.end.now) 1) base) _ (λ h e. (l h e).before)) c.in_ok-cut.ensures.done (λ h e. (l h e).cut)) c.in_ok-sync.ensures.done (λ h e. (l h e).kept))

pub returns-clause-done : goal.returns-clause-done
returns-clause-done g c base at holds =
    let l = λ (h : History) (e : g.D.Disk.tells c.args.disk.now ≡ Some h). cutting (c.args.gate + max (length c.args.end.now) 1) base c.args.end.now (c.args.gate + 1) h.now (ap (λ n. n + 1) (sym at)) (omega arith) (omega (arith, at)) c.requires.ends (holds h e) in
    now (λ m. m ≡ durable (base ++ take 1 c.args.end.now)) (ok (synced) (ok (cut_to (c.args.gate + 1)) (starts (EndsWithin (c.args.gate + max (length c.args.end.now) 1) base) _ (λ h e. (l h e).before)) c.in_ok-cut.ensures.done (λ h e. (l h e).cut)) c.in_ok-sync.ensures.done (λ h e. (l h e).kept)) (λ h e. (l h e).held)
