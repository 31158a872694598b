-- What is known of the disk behind the reading is known of it before.
use Rattle.racf_journal.proofs.Opens.{both_stay, both_rest}
use Rattle.racf_journal.proofs.journal.Journal.open.Goals as goal

pub returns-clause-rest : goal.returns-clause-rest
returns-clause-rest g c =
    let found = c.in_ok-find.field-0 in
    both_rest c.args.start (g.D.Disk.tells c.args.disk) (g.D.Disk.tells found.disk) c.in_ok-find.ensures.synced c.open.result (λ opened. g.D.Disk.tells opened.0.disk) (λ opened. opened.0.gate) (λ opened. opened.1.items) found.gate found.records c.open.ensures.gate c.open.ensures.records (rw c.in_ok-find.ensures.start at c.open.ensures.rest)

pub returns-clause-moments : goal.returns-clause-moments
returns-clause-moments g c =
    let found = c.in_ok-find.field-0 in
    both_stay c.args.start (g.D.Disk.tells c.args.disk) (g.D.Disk.tells found.disk) c.in_ok-find.ensures.synced c.open.result (λ opened. g.D.Disk.tells opened.0.disk) (λ back. g.D.Disk.tells back.0) (rw c.in_ok-find.ensures.start at c.open.ensures.moments)
