-- The canonical text of a command: its full name, its positional words, then its operands in the order of the table,
-- with one blank between words.
use Rattle.std.specs.Prelude.{ℕ, List, [], ◌∷◌, ◌++◌, None, Some, Result, Ok, Err, length, nat_lt, if◌then◌else◌}
use Rattle.command_values.specs.declared.faults.Syntax.{Syntax}
use Rattle.command_values.specs.declared.faults.Syntax.TheVariants as faults
use Rattle.command_grammar.specs.declared.table.Operand.{Operand}
use Rattle.command_values.specs.declared.values.Content.{Content}
use Rattle.command_values.specs.declared.values.Content.TheVariants as contents
use Rattle.command_values.specs.OperandWords.{spelling_of}
use Rattle.command_grammar.specs.Table.{full_name, operands_of}
use Rattle.command_values.specs.Results.{◌>>=◌}
use Rattle.command_values.specs.declared.values.Context.{Context}
use Rattle.command_values.specs.Values.{text_of}
use Rattle.command_grammar.specs.Reading.{Generic, Slots, parsed}

-- a value in its parentheses, or nothing where an operand takes none
abbrev pub value_text : Content → List ℕ
value_text contents.Flag = []
value_text v = 40 ∷ (text_of v ++ 41 ∷ [])

abbrev pub positions_text : List Content → List ℕ
positions_text [] = []
positions_text (v ∷ vs) = 32 ∷ (text_of v ++ positions_text vs)

abbrev pub operands_text : List Operand → Slots → List ℕ
operands_text [] [] = []
operands_text [] (s ∷ ss) = []
operands_text (o ∷ os) [] = []
operands_text (o ∷ os) (None ∷ ss) = operands_text os ss
operands_text (o ∷ os) (Some v ∷ ss) = 32 ∷ (spelling_of o.word ++ (value_text v ++ operands_text os ss))

unfoldable pub canon : Generic → List ℕ
canon g = full_name g.verb ++ (positions_text g.positions ++ operands_text (operands_of g.verb) g.slots)

-- What a text spells, or its first fault: a canonical text of more than 30,000 bytes is too long after every other
-- fault.
abbrev pub spelled : Context → List ℕ → Result Generic Syntax
spelled at text = parsed at text >>= λ g. if nat_lt 30000 (length (canon g)) then Err faults.TextTooLong else Ok g
