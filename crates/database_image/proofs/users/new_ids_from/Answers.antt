use Rattle.std.proofs.Common.{◌∷◌, ◌++◌, [], ℕ, List, ap, ◌∙◌, arith}
use Rattle.std.proofs.lemmas.Result.{err_from_is_err_and}
use Rattle.std.proofs.lemmas.List.{length-append}
use Rattle.database_image.specs.Fields.{id, is_new}
use Rattle.database_image.proofs.Loops.{goes_on, ends}
use Rattle.database_image.proofs.users.new_ids_from.Goals as goal

pub returns-in_err-name-clause-reads : goal.returns-in_err-name-clause-reads
returns-in_err-name-clause-reads c =
    let p = err_from_is_err_and c.from_residual.result c.from_residual.ensures.1 in
    rw (p.1, p.2) (ends c.in_err-name.field-0.0 (λ before. id (is_new before)) c.args.count c.loop.counter c.loop.items.items c.loop.left _ c.loop-test.true (rw (← c.loop.invariant.noted) c.in_err-name.ensures.reads) c.loop.invariant.read)

pub loop-preserved : goal.loop-preserved
loop-preserved c = record {
  noted = rw c.in_ok-push.ensures.items (c.in_ok-name.ensures.noted ∙ ap (λ (names : List (List ℕ)). names ++ c.in_ok-name.name ∷ []) c.loop.invariant.noted);
  counted = rw c.in_ok-push.ensures.items (omega (arith, length-append c.loop.items.items (c.in_ok-name.name ∷ []), c.loop.invariant.counted));
  within = omega (arith, c.loop-test.true);
  read = rw c.in_ok-push.ensures.items (goes_on (λ before. id (is_new before)) c.args.count c.loop.counter c.loop.items.items c.loop.left c.in_ok-name.name c.new_id_at.new.left _ c.loop-test.true (rw (← c.loop.invariant.noted) c.in_ok-name.ensures.reads) c.loop.invariant.read);
}
