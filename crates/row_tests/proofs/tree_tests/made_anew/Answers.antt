use Rattle.std.proofs.Common.{◌≡◌, ◌+◌, ◌++◌, ◌∷◌, [], ◌∙◌, take, ap, sym, add-one}
use Rattle.std.proofs.Math.Seq.{take-suc}
use Rattle.std.proofs.lemmas.Option.{get_or_from_slice_get, slice_get_within}
use Rattle.row_tests.proofs.tree_tests.made_anew.Goals as goal

pub loop-place-preserved : goal.loop-place-preserved
loop-place-preserved c =
    let gs = c.args.tree.now.groups in
    let x = c.at.result.now in
    let next : take (c.loop-place.place + 1) gs ≡ take c.loop-place.place gs ++ x ∷ [] =
    rw add-one (take-suc gs c.loop-place.place x (slice_get_within gs c.loop-place.place x c.at.ensures) ∙ ap (λ y. take c.loop-place.place gs ++ y ∷ []) (get_or_from_slice_get gs c.loop-place.place x x c.at.ensures)) in
    record {
      listed = c.in-Ok.ensures.items ∙ ap (λ xs. xs ++ x ∷ []) c.loop-place.invariant.listed ∙ sym next;
      count = c.loop-place.invariant.count;
      lawful = c.loop-place.invariant.lawful;
    }
