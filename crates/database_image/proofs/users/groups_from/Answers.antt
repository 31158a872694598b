use Rattle.std.proofs.Common.{◌∷◌, ◌++◌, [], ℕ, List, sym, ap, ◌∙◌}
use Rattle.std.proofs.lemmas.Result.{err_from_is_err_and}
use Rattle.std.proofs.lemmas.List.{map-append}
use Rattle.racf_profiles.specs.declared.groups.Group.{Group}
use Rattle.database_image.specs.Description.{group}
use Rattle.database_image.proofs.Loops.{goes_on, ends}
use Rattle.database_image.proofs.users.groups_from.Goals as goal

pub returns-in_err-group : goal.returns-in_err-group
returns-in_err-group c =
    let p = err_from_is_err_and c.from_residual.result c.from_residual.ensures.1 in
    rw (p.1, p.2) (ends c.in_err-group.field-0.0 group c.args.count c.loop.counter c.loop.items.items c.loop.left _ c.loop-test.true (rw (← c.deref.ensures.value) c.in_err-group.ensures.reads) c.loop.invariant.read)

pub loop-preserved : goal.loop-preserved
loop-preserved c = record {
  noted = rw c.in_ok-push.ensures.items (c.in_ok-group.ensures.noted ∙ ap (λ (names : List (List ℕ)). names ++ c.in_ok-group.group.id ∷ []) c.loop.invariant.noted ∙ sym (map-append (λ (group : Group). group.id) c.loop.items.items (c.in_ok-group.group ∷ [])));
  read = rw c.in_ok-push.ensures.items (goes_on group c.args.count c.loop.counter c.loop.items.items c.loop.left c.in_ok-group.group c.next_group.new.left _ c.loop-test.true (rw (← c.deref.ensures.value) c.in_ok-group.ensures.reads) c.loop.invariant.read);
}
