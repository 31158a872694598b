use Rattle.std.proofs.Common.{◌∷◌, ◌++◌, [], ℕ, List, sym, ap, ◌∙◌, arith}
use Rattle.std.proofs.lemmas.Result.{err_from_is_err_and}
use Rattle.std.proofs.lemmas.List.{map-append, length-append}
use Rattle.racf_profiles.specs.declared.users.Connect.{Connect as Connection}
use Rattle.database_image.specs.Description.{connection}
use Rattle.database_image.proofs.Loops.{goes_on, ends}
use Rattle.database_image.proofs.users.connects_from.Goals as goal

pub returns-in_err-connection-clause-reads : goal.returns-in_err-connection-clause-reads
returns-in_err-connection-clause-reads c =
    let p = err_from_is_err_and c.from_residual.result c.from_residual.ensures.1 in
    rw (p.1, p.2) (ends c.in_err-connection.field-0.0 connection c.args.count c.loop.counter c.loop.items.items c.loop.left _ c.loop-test.true (rw (← c.deref.ensures.value) c.in_err-connection.ensures.reads) c.loop.invariant.read)

pub loop-preserved : goal.loop-preserved
loop-preserved c = record {
  noted = rw c.in_ok-push.ensures.items (c.in_ok-connection.ensures.noted ∙ ap (λ (names : List (List ℕ)). names ++ c.in_ok-connection.connection.group ∷ []) c.loop.invariant.noted ∙ sym (map-append (λ (connection : Connection). connection.group) c.loop.items.items (c.in_ok-connection.connection ∷ [])));
  counted = rw c.in_ok-push.ensures.items (omega (arith, length-append c.loop.items.items (c.in_ok-connection.connection ∷ []), c.loop.invariant.counted));
  within = omega (arith, c.loop-test.true);
  read = rw c.in_ok-push.ensures.items (goes_on connection c.args.count c.loop.counter c.loop.items.items c.loop.left c.in_ok-connection.connection c.next_connection.new.left _ c.loop-test.true (rw (← c.deref.ensures.value) c.in_ok-connection.ensures.reads) c.loop.invariant.read);
}
