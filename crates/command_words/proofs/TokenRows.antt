-- Texts, and the tokens that they have.
use Rattle.std.proofs.Common.{◌≡◌, ℕ, List, [], ◌∷◌, true, false, refl}
use Rattle.std.specs.Prelude.{codes}
use Rattle.command_words.specs.declared.quoting.Quoting.TheVariants.{Ignored, Outside}
use Rattle.command_words.specs.Tokens.{Token, Word, Group, Open, Close, within, tokens_from}

abbrev of_command : List ℕ → List Token
of_command bytes = tokens_from Ignored false 0 1 bytes

abbrev of_value : List ℕ → List Token
of_value bytes = tokens_from Outside false 0 1 bytes

separators : of_command (codes ", AU,JOE ") ≡ Word 3 (codes "AU") ∷ Word 6 (codes "JOE") ∷ []
separators = refl

value-of-its-word : of_command (codes "A (B)C,(D)") ≡ Word 1 (codes "A") ∷ Group true 3 (within 3 (codes "B")) ∷ Word 6 (codes "C") ∷ Group false 8 (within 8 (codes "D")) ∷ []
value-of-its-word = refl

nested : of_command (codes "A((B)'))') )") ≡ Word 1 (codes "A") ∷ Group true 2 (within 2 (codes "(B)'))'")) ∷ Close 12 ∷ []
nested = refl

no-parenthesis : of_command (codes "A(B ((") ≡ Word 1 (codes "A") ∷ Open true 2 2 ∷ []
no-parenthesis = refl

no-quote : of_command (codes "A('B''C") ≡ Word 1 (codes "A") ∷ Open true 2 3 ∷ []
no-quote = refl

quotes-outside : of_command (codes "A 'B C'") ≡ Word 1 (codes "A") ∷ Word 3 (codes "'B") ∷ Word 6 (codes "C'") ∷ []
quotes-outside = refl

quotes-inside : of_value (codes "A'(''B,C'D E (F)") ≡ Word 1 (codes "A'(''B,C'D") ∷ Word 12 (codes "E") ∷ Group false 14 (within 14 (codes "F")) ∷ []
quotes-inside = refl
