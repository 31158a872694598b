use Rattle.std.proofs.Common.{map, subst}
use Rattle.std.specs.List.{IsDistinct}
use Rattle.std.specs.Str.{bytes_eq}
use Rattle.defined_rows.proofs.KeptLaws.{distinct_names}
use Rattle.defined_rows.proofs.ChangeLaws.{number_of, row_of}
use Rattle.defined_rows.proofs.rows.DefinedRows.len.Goals as goal

pub returns-clause-distinct : goal.returns-clause-distinct
returns-clause-distinct g c =
    let key = g.R.Keyed.key in
    subst (λ rows. IsDistinct bytes_eq (map key rows)) c.self.view_is (distinct_names (number_of key) (row_of key) key c.self.inside.order c.self.invariant.distinct)
