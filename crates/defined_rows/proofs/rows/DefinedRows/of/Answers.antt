use Rattle.std.proofs.Common.{◌≡◌, ◌++◌, ◌∷◌, [], ◌∙◌, ap, sym, subst, map, append_assoc}
use Rattle.std.specs.List.{IsDistinct}
use Rattle.std.specs.Str.{bytes_eq}
use Rattle.sorted_rows.specs.Sorted.{has_key}
use Rattle.racf_profiles.specs.Edits.{put_row}
use Rattle.defined_rows.proofs.KeptLaws.{put_behind}
use Rattle.defined_rows.proofs.rows.DefinedRows.of.Goals as goal

pub loop-row-preserved : goal.loop-row-preserved
loop-row-preserved g c =
    let key = g.R.Keyed.key in
    let row = c.in-Some.row in
    let rows = c.loop-row.yielded in
    let rest = c.next.new.self.rest.items in
    let whole : rows ++ row ∷ rest ≡ c.args.rows.items = ap (λ l. rows ++ l) (sym c.in-Some.ensures.steps.0) ∙ c.loop-row.invariant.whole in
    record {
      same = c.in_ok-table.ensures ∙ ap (λ l. put_row (has_key key (key row)) row l) c.loop-row.invariant.same
          ∙ put_behind key rows rest row (subst (λ l. IsDistinct bytes_eq (map key l)) (sym whole) c.requires);
      whole = append_assoc rows (row ∷ []) rest ∙ whole;
    }
