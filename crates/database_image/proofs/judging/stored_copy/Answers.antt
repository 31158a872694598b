use Rattle.std.proofs.Common.{List, ℕ, sym, subst}
use Rattle.database_image.specs.Image.{rows_of, Judges}
use Rattle.database_image.proofs.Verdicts.{copied, first, no-memory}
use Rattle.database_image.proofs.FitRows.{stored}
use Rattle.database_image.proofs.judging.stored_copy.Goals as goal

pub returns-in-Ok : goal.returns-in-Ok
returns-in-Ok c =
    let rows = c.args.rows.now in
    let bytes = c.deref.result.now in
    let judges : Judges rows (rows_of bytes) = subst (λ (t : List ℕ). Judges rows (rows_of t)) (sym c.deref.ensures.value) c.in-Ok.ensures.judges in
    let told = first rows (rows_of bytes) c.read.result judges c.read.ensures.exact in
    record {
      copy = copied rows (rows_of bytes) c.read.result judges c.read.ensures.exact;
      first = told;
      lawful = λ are. no-memory rows c.read.result (stored rows are c.in-Ok.ensures.spelled) told;
    }
