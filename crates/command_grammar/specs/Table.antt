-- What the table of commands says of each command.
use Rattle.std.specs.Prelude.{ℕ, List, Bool, ◌||◌, bytes_eq, map, Option, find, option_and_then}
use Rattle.command_values.specs.declared.operand_words.Word.{Word}
use Rattle.command_grammar.specs.declared.table.Verb.{Verb}
use Rattle.command_grammar.specs.declared.table.Position.{Position}
use Rattle.command_grammar.specs.declared.table.Operand.{Operand}
use Rattle.command_values.specs.declared.values.Content.{Content}
use Rattle.command_values.specs.OperandWords.{same_word}
use Rattle.command_grammar.specs.CommandTable.{OperandRow, Needed, row_of, commands}

abbrev pub full_name : Verb → List ℕ
full_name v = (row_of v).name

abbrev pub short_name : Verb → List ℕ
short_name v = (row_of v).abbreviation

abbrev pub positions_of : Verb → List Position
positions_of v = (row_of v).positions

abbrev pub operands_of : Verb → List Operand
operands_of v = map (λ (row : OperandRow). row.operand) (row_of v).operands

abbrev pub excluded_of : Verb → List (Word × Word)
excluded_of v = (row_of v).excluded

abbrev pub needed_of : Verb → List Needed
needed_of v = (row_of v).needed

-- the value that an operand has where it isn't given
abbrev pub default_of : Verb → Word → Option Content
default_of v w = option_and_then (λ (row : OperandRow). row.default) (find (λ (row : OperandRow). same_word row.operand.word w) (row_of v).operands)

-- A word names a command by its full name or its abbreviation.
abbrev pub is_called : List ℕ → Verb → Bool
is_called w v = bytes_eq w (full_name v) || bytes_eq w (short_name v)

abbrev pub verb_named : List ℕ → Option Verb
verb_named w = find (is_called w) commands
