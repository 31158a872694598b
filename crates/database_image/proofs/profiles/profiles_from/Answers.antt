use Rattle.std.proofs.Common.{◌∷◌, [], arith}
use Rattle.std.proofs.lemmas.Result.{err_from_is_err_and}
use Rattle.std.proofs.lemmas.List.{length-append}
use Rattle.std.proofs.lemmas.List.Sums.{sum_by_push}
use Rattle.racf_profiles.specs.Counts.{entries_in}
use Rattle.database_image.specs.Description.{profile}
use Rattle.database_image.proofs.Loops.{goes_on, ends}
use Rattle.database_image.proofs.profiles.profiles_from.Goals as goal

pub returns-in_err-profile-clause-reads : goal.returns-in_err-profile-clause-reads
returns-in_err-profile-clause-reads c =
    let p = err_from_is_err_and c.from_residual.result c.from_residual.ensures.1 in
    rw (p.1, p.2) (ends c.in_err-profile.field-0.0 (profile c.args.categories.now c.args.class c.args.earlier) c.args.count c.loop.counter c.loop.items.items c.loop.left _ c.loop-test.true (rw (← c.deref.ensures.value) c.in_err-profile.ensures.reads) c.loop.invariant.read)

pub loop-preserved : goal.loop-preserved
loop-preserved c = record {
  held = rw c.in_ok-push.ensures.items (omega (arith, sum_by_push entries_in c.loop.items.items c.in_ok-profile.profile, c.loop.invariant.held, c.entries_in-held.ensures));
  few = omega (arith, c.in_ok-profile.ensures.few, c.entries_in-held.ensures);
  counted = rw c.in_ok-push.ensures.items (omega (arith, length-append c.loop.items.items (c.in_ok-profile.profile ∷ []), c.loop.invariant.counted));
  within = omega (arith, c.loop-test.true);
  read = rw c.in_ok-push.ensures.items (goes_on (profile c.args.categories.now c.args.class c.args.earlier) c.args.count c.loop.counter c.loop.items.items c.loop.left c.in_ok-profile.profile c.next_profile.new.left _ c.loop-test.true (rw (← c.deref.ensures.value) c.in_ok-profile.ensures.reads) c.loop.invariant.read);
}
