-- Worked rows: whom lines name, and the places of what doesn't fit.
use Rattle.std.proofs.Common.{◌≡◌, refl, codes, Ok, Err, Some, None}
use Rattle.request_files.specs.declared.line.LineRefusal.TheVariants.{BadLine}
use Rattle.command_words.specs.LineWords.{words_at}
use Rattle.request_files.specs.Grammar.{next}
use Rattle.request_files.specs.IssuerLines.{issuer_by, issuer_of_line}

alone : issuer_of_line (codes "*ISSUER\tann ") ≡ Ok record { id = codes "ANN"; group = None }
unfolding words_at next issuer_by issuer_of_line
alone = refl

with_group : issuer_of_line (codes "*issuer ANN group(sys1)") ≡ Ok record { id = codes "ANN"; group = Some (codes "SYS1") }
unfolding words_at next issuer_by issuer_of_line
with_group = refl

nobody : issuer_of_line (codes "*ISSUER") ≡ Err (BadLine 8)
unfolding words_at next issuer_by issuer_of_line
nobody = refl

no_blank : issuer_of_line (codes "*ISSUER ANN,GROUP(SYS1)") ≡ Err (BadLine 9)
unfolding words_at next issuer_by issuer_of_line
no_blank = refl

other_operand : issuer_of_line (codes "*ISSUER ANN APPL(X)") ≡ Err (BadLine 13)
unfolding words_at next issuer_by issuer_of_line
other_operand = refl

one_more : issuer_of_line (codes "*ISSUER ANN GROUP(A) GROUP(A)") ≡ Err (BadLine 22)
unfolding words_at next issuer_by issuer_of_line
one_more = refl
