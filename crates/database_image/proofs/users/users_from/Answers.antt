use Rattle.std.proofs.Common.{◌∷◌, ◌++◌, [], ℕ, List, sym, ap, ◌∙◌, arith}
use Rattle.std.proofs.lemmas.Result.{err_from_is_err_and}
use Rattle.std.proofs.lemmas.List.{map-append}
use Rattle.std.proofs.lemmas.List.Sums.{sum_by_push}
use Rattle.racf_profiles.specs.declared.users.User.{User}
use Rattle.racf_profiles.specs.Names.{connected_to}
use Rattle.database_image.specs.Description.{user}
use Rattle.database_image.proofs.Loops.{goes_on, ends}
use Rattle.database_image.proofs.users.users_from.Goals as goal

pub returns-in_err-user : goal.returns-in_err-user
returns-in_err-user c =
    let p = err_from_is_err_and c.from_residual.result c.from_residual.ensures.1 in
    rw (p.1, p.2) (ends c.in_err-user.field-0.0 (user c.args.categories) c.args.count c.loop.counter c.loop.items.items c.loop.left _ c.loop-test.true (rw (← c.deref.ensures.value) c.in_err-user.ensures.reads) c.loop.invariant.read)

pub loop-preserved : goal.loop-preserved
loop-preserved c = record {
  noted = rw c.in_ok-push.ensures.items (c.in_ok-user.ensures.noted ∙ ap (λ (names : List (List ℕ)). names ++ c.in_ok-user.user.id ∷ []) c.loop.invariant.noted ∙ sym (map-append (λ (user : User). user.id) c.loop.items.items (c.in_ok-user.user ∷ [])));
  counted = rw c.in_ok-push.ensures.items (omega (arith, sum_by_push connected_to c.loop.items.items c.in_ok-user.user, c.loop.invariant.counted, c.connections_of-connections.ensures));
  few = omega (arith, c.in_ok-user.ensures.few, c.connections_of-connections.ensures);
  read = rw c.in_ok-push.ensures.items (goes_on (user c.args.categories) c.args.count c.loop.counter c.loop.items.items c.loop.left c.in_ok-user.user c.next_user.new.left _ c.loop-test.true (rw (← c.deref.ensures.value) c.in_ok-user.ensures.reads) c.loop.invariant.read);
}
