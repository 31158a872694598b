-- A command as the table sees it, its canonical text, and the texts that spell it.
use Rattle.std.specs.Prelude.{◌≡◌, ℕ, List, [], ◌∷◌, ◌++◌, Option, None, Some, Result, Ok, Err}
use Rattle.std.specs.Result.{result_err}
use Rattle.command_values.specs.declared.faults.Syntax.{Syntax}
use Rattle.command_values.specs.declared.faults.ParseFault.{ParseFault}
use Rattle.command_values.specs.declared.faults.ParseFault.TheVariants as reasons
use Rattle.command_values.specs.declared.values.Context.{Context}
use Rattle.command_grammar.specs.Reading.{Generic}
use Rattle.command_grammar.specs.Canon.{value_text, positions_text, spelled}
use Rattle.command_fields.specs.declared.fields.CommandFields.{CommandFields}
use Rattle.command_values.specs.declared.operand_words.Word.{Word}
use Rattle.command_values.specs.declared.values.Content.{Content}
use Rattle.command_values.specs.OperandWords.{spelling_of}
use Rattle.command_grammar.specs.Table.{full_name}
use Rattle.command_parser.specs.Operands.{Given, values_of, verb_of, names_of, operands_of_command}

abbrev pub generic_view : CommandFields → Generic
generic_view c = record { verb = verb_of c; positions = names_of c; slots = values_of (operands_of_command c) }

-- each operand that was given, its word in full, with its value in parentheses where it takes one
abbrev pub operand_text : Word → Option Content → List ℕ → List ℕ
operand_text w None behind = behind
operand_text w (Some v) behind = 32 ∷ (spelling_of w ++ (value_text v ++ behind))

abbrev pub operands_text : List Given → List ℕ
operands_text [] = []
operands_text (g ∷ gs) = operand_text g.0 g.1 (operands_text gs)

-- The canonical text of a command: its full name, its positional words and its operands, with one blank between words.
unfoldable pub canonical : CommandFields → List ℕ
canonical c = full_name (verb_of c) ++ (positions_text (names_of c) ++ operands_text (operands_of_command c))

-- what reading depends on where this issuer gives the command
abbrev pub given_by : List ℕ → Context
given_by issuer = record { issuer = issuer }

-- The text spells the command, where this issuer gives it.
abbrev pub Spells : List ℕ → List ℕ → CommandFields → Type 0
Spells issuer text c = spelled (given_by issuer) text ≡ Ok (generic_view c)

-- the first fault of a text that spells no command
abbrev pub fault : List ℕ → List ℕ → Option Syntax
fault issuer text = result_err (spelled (given_by issuer) text)

-- The first fault. Want of memory may be told in place of it, and of a command: no clause says when there is enough, and
-- tests alone show that it isn't told then.
abbrev pub IsFault : List ℕ → List ℕ → ParseFault → Type 0
IsFault issuer text (reasons.Syntax e) = fault issuer text ≡ Some e
IsFault issuer text reasons.NoMemory = Unit {0}

-- a command that was read, unless memory ran out
abbrev pub IsUnlessMemory : Result CommandFields ParseFault → CommandFields → Type 0
IsUnlessMemory (Ok d) c = d ≡ c
IsUnlessMemory (Err reasons.NoMemory) c = Unit {0}
IsUnlessMemory (Err (reasons.Syntax e)) c = ⊥

-- What the type of commands keeps: the text that it holds is the canonical one, which spells it for every issuer.
pub record IsWritten (c : CommandFields) (text : List ℕ) : Type 0 where
  pub canonic : text ≡ canonical c
  pub spells : (issuer : List ℕ) → Spells issuer text c
