use Rattle.std.proofs.Common.{◌∙◌, ap, sym, subst, set}
use Rattle.std.specs.Arc.{arc_value}
use Rattle.std.specs.List.{insert}
use Rattle.sorted_rows.specs.Sorted.{IsInOrder}
use Rattle.sorted_rows.proofs.RowLaws.{in_order_with_row}
use Rattle.sorted_rows.proofs.PlaceLaws.{replaced_is, inserted_is}
use Rattle.sorted_rows.proofs.rows.SortedRows.with_row.Goals as goal

pub returns-in_ok-with_replaced-in-Ok : goal.returns-in_ok-with_replaced-in-Ok
returns-in_ok-with_replaced-in-Ok g c =
    c.in_ok-with_replaced-in-Ok.ensures
    ∙ ap (λ l. set l c.in-Ok.place (arc_value c.args.row)) c.self.view_is
    ∙ replaced_is g.R.Keyed.key c.key.result.now c.args.self.now c.in-Ok.place c.in-Ok.ensures.ordered (arc_value c.args.row) (sym (c.key.ensures ∙ ap g.R.Keyed.key c.deref.ensures)) c.in-Ok.ensures.found

pub returns-in_ok-with_inserted-in-Err : goal.returns-in_ok-with_inserted-in-Err
returns-in_ok-with_inserted-in-Err g c =
    c.in_ok-with_inserted-in-Err.ensures
    ∙ ap (λ l. insert l c.in-Err.place (arc_value c.args.row)) c.self.view_is
    ∙ inserted_is g.R.Keyed.key c.key.result.now c.args.self.now c.in-Err.place c.in-Err.ensures.ordered (arc_value c.args.row) (sym (c.key.ensures ∙ ap g.R.Keyed.key c.deref.ensures)) c.in-Err.ensures.missing

pub invariant_of-result : goal.invariant_of-result
invariant_of-result g c =
    let is =
    c.in_ok-with_replaced-in-Ok.ensures
    ∙ ap (λ l. set l c.in-Ok.place (arc_value c.args.row)) c.self.view_is
    ∙ replaced_is g.R.Keyed.key c.key.result.now c.args.self.now c.in-Ok.place c.in-Ok.ensures.ordered (arc_value c.args.row) (sym (c.key.ensures ∙ ap g.R.Keyed.key c.deref.ensures)) c.in-Ok.ensures.found in
    subst (λ rows. IsInOrder g.R.Keyed.key rows) (sym is) (in_order_with_row g.R.Keyed.key (arc_value c.args.row) c.args.self.now c.in-Ok.ensures.ordered)

pub invariant_of-result-in-Err : goal.invariant_of-result-in-Err
invariant_of-result-in-Err g c =
    let is =
    c.in_ok-with_inserted-in-Err.ensures
    ∙ ap (λ l. insert l c.in-Err.place (arc_value c.args.row)) c.self.view_is
    ∙ inserted_is g.R.Keyed.key c.key.result.now c.args.self.now c.in-Err.place c.in-Err.ensures.ordered (arc_value c.args.row) (sym (c.key.ensures ∙ ap g.R.Keyed.key c.deref.ensures)) c.in-Err.ensures.missing in
    subst (λ rows. IsInOrder g.R.Keyed.key rows) (sym is) (in_order_with_row g.R.Keyed.key (arc_value c.args.row) c.args.self.now c.in-Err.ensures.ordered)
