-- Worked rows of lines that are joined, computed on the definitions.
use Rattle.std.proofs.Common.{◌≡◌, ℕ, List, [], ◌∷◌, refl}
use Rattle.std.specs.Prelude.{codes}
use Rattle.statements.specs.declared.statement.Statement.{Statement}
use Rattle.statements.specs.declared.statement.Statement.TheVariants.{Command, Issuer, Request}
use Rattle.statements.specs.Statements.{request_of, is_request}
use Rattle.statements.specs.Inputs.{statements, deck_statements, statements_of}

abbrev items : List ℕ → List Statement
items bytes = statements.items bytes

abbrev whole_items : List ℕ → List Statement
whole_items bytes = statements.whole_items bytes

-- The mark and the blanks behind it go, those before it stay; behind `+` the next line's go too.
hyphen : items (codes "adduser joe - \t\n  dfltgrp(sys1)\n") ≡ Command (codes "adduser joe   dfltgrp(sys1)") ∷ []
unfolding request_of is_request statements_of
hyphen = refl

plus : items (codes "AU J+\n \tOE\nDU X") ≡ Command (codes "AU JOE") ∷ Command (codes "DU X") ∷ []
unfolding request_of is_request statements_of
plus = refl

-- A comment, a request and a blank line are joined too; the blank one has no mark.
joins_all : items (codes "AU A-\n/* x -\nVERIFY A IBMUSER-\n\nDU X") ≡ Command (codes "AU A/* x VERIFY A IBMUSER") ∷ Command (codes "DU X") ∷ []
unfolding request_of is_request statements_of
joins_all = refl

-- A comment doesn't go on, nor does a request; `VERIFY,A` and `*ISSUERX` are commands.
apart : items (codes "/* x -\n verify a -\n*issuer A-\nVERIFY,A\n*ISSUERX") ≡ Request (codes " verify a -") ∷ Issuer (codes "*issuer A-") ∷ Command (codes "VERIFY,A") ∷ Command (codes "*ISSUERX") ∷ []
unfolding request_of is_request statements_of
apart = refl

-- The end of the input ends a command; where more may come, it isn't begun.
ended : items (codes "-") ≡ Command [] ∷ []
unfolding request_of is_request statements_of
ended = refl

not_begun : whole_items (codes "DU X\nAU A-\n/* x") ≡ Command (codes "DU X") ∷ []
unfolding request_of is_request statements_of
not_begun = refl

-- In a deck a request begins a command, and may go on; the line of an issuer stands alone there too.
abbrev deck_items : List ℕ → List Statement
deck_items bytes = deck_statements.items bytes

deck : deck_items (codes "/* x -\nVERIFY A-\n IBMUSER\n*AFTER 1\n*issuer A-\nAU A+\n  B\n") ≡ Command (codes "VERIFY A IBMUSER") ∷ Command (codes "*AFTER 1") ∷ Issuer (codes "*issuer A-") ∷ Command (codes "AU AB") ∷ []
unfolding request_of is_request statements_of
deck = refl
