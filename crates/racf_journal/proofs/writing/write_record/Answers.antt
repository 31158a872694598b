-- Nothing is written where memory is short; else what is written is the record and a closed gate.
use Rattle.std.proofs.Common.{◌≡◌, [], ◌∷◌, ◌++◌, rules}
use Rattle.racf_outside.proofs.Runs.{StaysIn-none}
use Rattle.racf_journal.specs.Kept.{IsAppended}
use Rattle.racf_journal.proofs.Rests.{rest_leaves_either}
use Rattle.racf_journal.proofs.writing.write_record.Goals as goal

pub returns-in_err-bytes-clause-moments : goal.returns-in_err-bytes-clause-moments
returns-in_err-bytes-clause-moments g c start front records keeps =
    StaysIn-none (IsAppended front records c.args.next.now c.args.gate) _ (λ h e. rest_leaves_either front start c.args.gate records c.args.next.now h.now (keeps h e))

pub returns-in_err-put_behind-clause-moments : goal.returns-in_err-put_behind-clause-moments
returns-in_err-put_behind-clause-moments g c start =
    let same : c.deref.result.now ≡ c.args.next.now ++ 0 ∷ [] = search rules in
    c.put_behind.ensures.moments start c.args.next.now c.requires.lawful same

pub returns-clause-moments : goal.returns-clause-moments
returns-clause-moments g c start =
    let same : c.deref.result.now ≡ c.args.next.now ++ 0 ∷ [] = search rules in
    c.put_behind.ensures.moments start c.args.next.now c.requires.lawful same

pub returns-clause-acknowledged : goal.returns-clause-acknowledged
returns-clause-acknowledged g c start =
    let same : c.deref.result.now ≡ c.args.next.now ++ 0 ∷ [] = search rules in
    c.in_ok-put_behind.ensures.acknowledged start c.args.next.now c.requires.lawful same
