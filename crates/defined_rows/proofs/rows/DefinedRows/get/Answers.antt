use Rattle.std.proofs.Common.{◌∙◌, ap, sym, refl, option_map}
use Rattle.defined_rows.proofs.ChangeLaws.{row_of, found_in_order, missing_in_order, rows_found}
use Rattle.defined_rows.proofs.rows.DefinedRows.get.Goals as goal

pub returns-in-Some : goal.returns-in-Some
returns-in-Some g c =
    let key = g.R.Keyed.key in
    let self = c.self.inside in
    let found = found_in_order key self.order self.by_key self.next c.self.invariant c.args.key.now c.args.key.now c.in-Some.defined.now refl c.in-Some.ensures in
    ap (λ o. option_map (row_of key) o) (sym found) ∙ rows_found key self.order c.args.self.now c.self.view_is c.args.key.now

pub returns-in-None : goal.returns-in-None
returns-in-None g c =
    let key = g.R.Keyed.key in
    let self = c.self.inside in
    let missing = missing_in_order key self.order self.by_key self.next c.self.invariant c.args.key.now c.args.key.now refl c.in-None.ensures in
    ap (λ o. option_map (row_of key) o) (sym missing) ∙ rows_found key self.order c.args.self.now c.self.view_is c.args.key.now
