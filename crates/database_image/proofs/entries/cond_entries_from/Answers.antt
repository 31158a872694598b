use Rattle.std.proofs.Common.{◌∷◌, ◌++◌, [], ℕ, List, sym, ap, ◌∙◌, arith}
use Rattle.std.proofs.lemmas.Result.{err_from_is_err_and}
use Rattle.std.proofs.lemmas.List.{map-append, length-append}
use Rattle.database_image.specs.Description.{cond_entry, cond_entry_key}
use Rattle.database_image.proofs.Loops.{goes_on, ends}
use Rattle.database_image.proofs.entries.cond_entries_from.Goals as goal

pub returns-in_err-entry-clause-reads : goal.returns-in_err-entry-clause-reads
returns-in_err-entry-clause-reads c =
    let p = err_from_is_err_and c.from_residual.result c.from_residual.ensures.1 in
    rw (p.1, p.2) (ends c.in_err-entry.field-0.0 cond_entry c.args.count c.loop.counter c.loop.items.items c.loop.left _ c.loop-test.true (rw (← c.deref.ensures.value) c.in_err-entry.ensures.reads) c.loop.invariant.read)

pub loop-preserved : goal.loop-preserved
loop-preserved c = record {
  noted = rw c.in_ok-push.ensures.items (c.in_ok-entry.ensures.noted ∙ ap (λ (names : List (List ℕ)). names ++ cond_entry_key c.in_ok-entry.entry ∷ []) c.loop.invariant.noted ∙ sym (map-append cond_entry_key c.loop.items.items (c.in_ok-entry.entry ∷ [])));
  counted = rw c.in_ok-push.ensures.items (omega (arith, length-append c.loop.items.items (c.in_ok-entry.entry ∷ []), c.loop.invariant.counted));
  within = omega (arith, c.loop-test.true);
  read = rw c.in_ok-push.ensures.items (goes_on cond_entry c.args.count c.loop.counter c.loop.items.items c.loop.left c.in_ok-entry.entry c.next_cond_entry.new.left _ c.loop-test.true (rw (← c.deref.ensures.value) c.in_ok-entry.ensures.reads) c.loop.invariant.read);
}
