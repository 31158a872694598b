use Rattle.std.proofs.Common.{length, arith}
use Rattle.std.proofs.lemmas.Result.{err_from_is_err_and}
use Rattle.std.proofs.lemmas.List.Sums.{sum_by_push}
use Rattle.std.specs.List.{sum_by}
use Rattle.racf_profiles.specs.declared.class_rows.ClassRow.{ClassRow}
use Rattle.racf_profiles.specs.Counts.{entries_in}
use Rattle.database_image.specs.Description.{class}
use Rattle.database_image.proofs.Loops.{goes_on, ends}
use Rattle.database_image.proofs.classes.classes_from.Goals as goal

pub returns-in_err-class : goal.returns-in_err-class
returns-in_err-class c =
    let p = err_from_is_err_and c.from_residual.result c.from_residual.ensures.1 in
    rw (p.1, p.2) (ends c.in_err-class.field-0.0 (class c.args.categories.now) c.args.count c.loop.counter c.loop.items.items c.loop.left _ c.loop-test.true (rw (← c.deref.ensures.value) c.in_err-class.ensures.reads) c.loop.invariant.read)

pub loop-preserved : goal.loop-preserved
loop-preserved c = record {
  profiles = rw c.in_ok-push.ensures.items (omega (arith, sum_by_push (λ (class : ClassRow). length class.profiles) c.loop.items.items c.in_ok-class.class, c.loop.invariant.profiles, c.profiles_of-profiles.ensures));
  few_profiles = omega (arith, c.in_ok-class.ensures.few_profiles, c.profiles_of-profiles.ensures);
  entries = rw c.in_ok-push.ensures.items (omega (arith, sum_by_push (λ (class : ClassRow). sum_by entries_in class.profiles) c.loop.items.items c.in_ok-class.class, c.loop.invariant.entries, c.entries_of-entries.ensures));
  few_entries = omega (arith, c.in_ok-class.ensures.few_entries, c.entries_of-entries.ensures);
  read = rw c.in_ok-push.ensures.items (goes_on (class c.args.categories.now) c.args.count c.loop.counter c.loop.items.items c.loop.left c.in_ok-class.class c.next_class.new.left _ c.loop-test.true (rw (← c.deref.ensures.value) c.in_ok-class.ensures.reads) c.loop.invariant.read);
}
