-- The operands of a command are those of its table.
use Rattle.std.proofs.Common.{◌≡◌, ℕ, List, [], ◌∷◌, ◌++◌, map, Option, None, Some, refl, sym, ap, ◌∙◌}
use Rattle.command_values.specs.declared.operand_words.Word.{Word}
use Rattle.command_grammar.specs.declared.table.Operand.{Operand}
use Rattle.command_values.specs.declared.values.Content.{Content}
use Rattle.command_values.specs.OperandWords.{spelling_of}
use Rattle.command_grammar.specs.Table.{full_name, operands_of}
use Rattle.command_grammar.specs.Canon.{value_text, positions_text, operands_text as table_text, canon}
use Rattle.command_fields.specs.declared.fields.CommandFields.{CommandFields}
use Rattle.command_fields.specs.declared.fields.CommandFields.TheVariants as command
use Rattle.command_parser.specs.Operands.{Given, values_of, words_of, verb_of, names_of, operands_of_command}
use Rattle.command_parser.specs.Canonical.{generic_view, operand_text, operands_text, canonical}

abbrev table_words : List Operand → List Word
table_words os = map (λ (o : Operand). o.word) os

pub words-tabled : (c : CommandFields) → words_of (operands_of_command c) ≡ table_words (operands_of (verb_of c))
words-tabled (command.AddUser a) = refl
words-tabled (command.AltUser a) = refl
words-tabled (command.DelUser a) = refl
words-tabled (command.AddGroup a) = refl
words-tabled (command.AltGroup a) = refl
words-tabled (command.DelGroup a) = refl
words-tabled (command.Connect a) = refl
words-tabled (command.Remove a) = refl
words-tabled (command.AddSd a) = refl
words-tabled (command.AltSd a) = refl
words-tabled (command.DelSd a) = refl
words-tabled (command.RDefine a) = refl
words-tabled (command.RAlter a) = refl
words-tabled (command.DefineClass a) = refl
words-tabled (command.AlterClass a) = refl
words-tabled (command.RDelete a) = refl
words-tabled (command.Permit a) = refl
words-tabled (command.SetRopts a) = refl

-- the table writes what stands with the same words
one-written : (o : Operand) (w : Word) (v : Option Content) (os : List Operand) (gs : List Given) → w ≡ o.word → table_text os (values_of gs) ≡ operands_text gs
    → table_text (o ∷ os) (v ∷ values_of gs) ≡ operand_text w v (operands_text gs)
one-written o w None os gs same more = more
one-written o w (Some v) os gs same more =
    ap (λ (bs : List ℕ). 32 ∷ (spelling_of o.word ++ (value_text v ++ bs))) more
    ∙ ap (λ (x : Word). 32 ∷ (spelling_of x ++ (value_text v ++ operands_text gs))) (sym same)

written-so : (os : List Operand) (gs : List Given) → words_of gs ≡ table_words os → table_text os (values_of gs) ≡ operands_text gs
written-so [] [] h = refl
written-so [] (g ∷ gs) h = cc
written-so (o ∷ os) [] h = cc
written-so (o ∷ os) (g ∷ gs) h =
    let here : g.0 ≡ o.word = cc in
    let more : words_of gs ≡ table_words os = cc in
    one-written o g.0 g.1 os gs here (written-so os gs more)

pub canonical-canon : (c : CommandFields) → canonical c ≡ canon (generic_view c)
unfolding canonical canon
canonical-canon c = ap (λ (bs : List ℕ). full_name (verb_of c) ++ (positions_text (names_of c) ++ bs)) (sym (written-so (operands_of (verb_of c)) (operands_of_command c) (words-tabled c)))
