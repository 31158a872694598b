-- The array's front is what was staged there.
use Rattle.std.proofs.Common.{◌+◌, ◌∙◌, [], ◌∷◌, length, ap, arith, length-append}
use Rattle.std.proofs.lemmas.List.{take_at}
use Rattle.std.proofs.lemmas.Result.{on_ok_weaker}
use Rattle.racf_journal.proofs.writing.write_short.Goals as goal

pub returns-clause-moments : goal.returns-clause-moments
returns-clause-moments g c start =
    c.put_behind.ensures.moments start c.args.next.now c.requires.lawful (take_at c.stage.new.bytes _ (length c.args.next.now + 1) (omega (arith, ap length c.stage.ensures, length-append c.args.next.now (0 ∷ []))) ∙ c.stage.ensures)

pub returns-clause-acknowledged : goal.returns-clause-acknowledged
returns-clause-acknowledged g c =
    on_ok_weaker c.put_behind.result (λ kept start. kept start c.args.next.now c.requires.lawful (take_at c.stage.new.bytes _ (length c.args.next.now + 1) (omega (arith, ap length c.stage.ensures, length-append c.args.next.now (0 ∷ []))) ∙ c.stage.ensures)) c.put_behind.ensures.acknowledged
