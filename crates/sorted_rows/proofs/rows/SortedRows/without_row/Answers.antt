use Rattle.std.proofs.Common.{◌∙◌, ap, sym, subst, not}
use Rattle.std.specs.List.{remove}
use Rattle.std.proofs.lemmas.Result.{IfOk-weaker}
use Rattle.sorted_rows.specs.Sorted.{IsInOrder, has_key}
use Rattle.sorted_rows.proofs.RowLaws.{in_order_filter}
use Rattle.sorted_rows.proofs.PlaceLaws.{removed_is, kept_is}
use Rattle.sorted_rows.proofs.rows.SortedRows.without_row.Goals as goal

pub returns-in_ok-with_removed-in-Ok : goal.returns-in_ok-with_removed-in-Ok
returns-in_ok-with_removed-in-Ok g c =
    c.in_ok-with_removed-in-Ok.ensures
    ∙ ap (λ l. remove l c.in-Ok.place) c.self.view_is
    ∙ removed_is g.R.Keyed.key c.args.key.now c.args.self.now c.in-Ok.place c.in-Ok.ensures.ordered c.in-Ok.ensures.found

pub invariant_of-result : goal.invariant_of-result
invariant_of-result g c =
    let key = g.R.Keyed.key in
    let is = c.in_ok-with_removed-in-Ok.ensures
    ∙ ap (λ l. remove l c.in-Ok.place) c.self.view_is
    ∙ removed_is key c.args.key.now c.args.self.now c.in-Ok.place c.in-Ok.ensures.ordered c.in-Ok.ensures.found in
    subst (λ rows. IsInOrder key rows) (sym is) (in_order_filter key (λ row. not (has_key key c.args.key.now row)) c.args.self.now c.in-Ok.ensures.ordered)

pub returns-in-Err : goal.returns-in-Err
returns-in-Err g c =
    IfOk-weaker c.share.result _ _ (λ table h. h ∙ kept_is g.R.Keyed.key c.args.key.now c.args.self.now c.in-Err.field-0 c.in-Err.ensures.ordered c.in-Err.ensures.missing) c.share.ensures
