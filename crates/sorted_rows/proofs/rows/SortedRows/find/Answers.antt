use Rattle.std.proofs.Common.{◌∙◌, ap, sym}
use Rattle.std.specs.List.{slice_get}
use Rattle.sorted_rows.proofs.PlaceLaws.{finds_found, finds_missing}
use Rattle.sorted_rows.proofs.rows.SortedRows.find.Goals as goal

pub returns-in-Ok : goal.returns-in-Ok
returns-in-Ok g c =
    let rows = c.args.self.now in
    let here = ap (λ l. slice_get l c.in-Ok.place) (sym c.self.view_is) ∙ c.at.ensures in
    sym (finds_found g.R.Keyed.key c.args.key.now rows c.in-Ok.place c.in-Ok.ensures.ordered (c.at.result.now) here c.in-Ok.ensures.found)

pub returns-in-Err : goal.returns-in-Err
returns-in-Err g c = sym (finds_missing g.R.Keyed.key c.args.key.now c.args.self.now c.in-Err.field-0 c.in-Err.ensures.ordered c.in-Err.ensures.missing)
