use Rattle.std.proofs.Common.{rules, ◌≡◌, ℕ, List, length, sym, subst, arith}
use Rattle.std.specs.Option.{unwrap_or}
use Rattle.database_image.specs.Facts.{first_broken}
use Rattle.database_image.specs.Image.{image_of, rows_of, Judges}
use Rattle.database_image.specs.Misleading.{marks}
use Rattle.database_image.proofs.Verdicts.{until, judged, wide}
use Rattle.database_image.proofs.judging.telling_image.Goals as goal

pub first_misleading-requires : goal.first_misleading-requires
first_misleading-requires c =
    let rows = c.args.rows.now in
    let w = wide rows c.in_ok-image.ensures.spelled in
    let size : c.len-size.result ≡ length (image_of rows) = search rules in
    omega (arith, w, size)

pub returns-clause-judges : goal.returns-clause-judges
returns-clause-judges c =
    let rows = c.args.rows.now in
    let end : c.unwrap_or-end.result ≡ unwrap_or (first_broken (marks rows)) (length (image_of rows)) = search rules in
    let bytes : c.truncate.new.self.items ≡ until (first_broken (marks rows)) (image_of rows) = search rules in
    subst (λ (t : List ℕ). Judges rows (rows_of t)) (sym bytes) (judged rows c.in_ok-image.ensures.spelled)
