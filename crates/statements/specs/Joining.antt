-- How lines are joined to statements. A line of a command whose last byte but blanks and tabs is `-` or `+` goes on in
-- the next line, whatever that holds: a comment, a blank line or a request. Each line is judged by its own mark.
use Rattle.std.specs.Prelude.{ℕ, ◌==◌, List, [], ◌∷◌, ◌++◌, Option, None, Some, option_map, if◌then◌else◌}
use Rattle.std.specs.List.{list_all}
use Rattle.std.specs.Option.{option_to_list}
use Rattle.racf_outside.specs.Lines.{Line, Text, TooLong}
use Rattle.statements.specs.declared.statement.Kind.{Kind}
use Rattle.statements.specs.declared.statement.Statement.{Statement}
use Rattle.statements.specs.declared.statement.Statement.TheVariants.{Command, LineTooLong}
use Rattle.statements.specs.declared.mark.Mark.{Mark}
use Rattle.statements.specs.declared.mark.Mark.TheVariants.{Hyphen, Plus}
use Rattle.statements.specs.declared.joining.LineRole.{LineRole}
use Rattle.statements.specs.declared.joining.LineRole.TheVariants.{Whole, GoesOn}
use Rattle.statements.specs.Fronts.{Front, marked, behind}
use Rattle.statements.specs.Statements.{is_skipped, stands_alone, request_of}
use Rattle.command_words.specs.Bytes.{is_blank_byte}
use Rattle.command_words.specs.FrontWords.{past}
use Rattle.command_words.specs.declared.front_words.Parting.TheVariants as parting

abbrev pub mark_of : ℕ → Option Mark
mark_of byte = if byte == 45 then Some Hyphen else if byte == 43 then Some Plus else None

-- A line that goes on: what stands before its mark, the blanks there too, and the mark. The blanks behind the mark go.
abbrev pub going_on : List ℕ → Option Front
going_on [] = None
going_on (byte ∷ bytes) =
    if list_all is_blank_byte bytes then option_map (marked []) (mark_of byte)
    else option_map (behind byte) (going_on bytes)

-- What a line adds to the command that it is joined to: behind `+` the blanks and tabs in front of it go.
abbrev pub added : Mark → List ℕ → List ℕ
added Hyphen text = text
added Plus text = past parting.Line text

-- A text is a command behind the text before it, or goes on.
abbrev pub joined_by : Option Front → List ℕ → List ℕ → LineRole
joined_by None before text = Whole (Some (Command (before ++ text)))
joined_by (Some front) before text = GoesOn (marked (before ++ front.text) front.mark)

abbrev pub joined : List ℕ → List ℕ → LineRole
joined before text = joined_by (going_on text) before text

-- What a line is that begins anew: nothing, where it is skipped; a request or an issuer; or a command, or the front
-- of one.
abbrev pub fresh_role : Kind → Line → LineRole
fresh_role kind TooLong = Whole (Some LineTooLong)
fresh_role kind (Text text) =
    if is_skipped text then Whole None
    else if stands_alone kind text then Whole (Some (request_of text))
    else joined [] text

-- What a line is behind the front of a command. A line that is too long takes the whole command with it.
abbrev pub role_of : Kind → Option Front → Line → LineRole
role_of kind None line = fresh_role kind line
role_of kind (Some front) TooLong = Whole (Some LineTooLong)
role_of kind (Some front) (Text text) = joined front.text (added front.mark text)

-- the statement that ends with a line, and the front of the command that goes on
abbrev pub ending : LineRole → Option Statement
ending (Whole item) = item
ending (GoesOn front) = None

abbrev pub going : LineRole → Option Front
going (Whole item) = None
going (GoesOn front) = Some front

-- The statements of lines behind a front; `last` says what becomes of the front of a command behind the last line.
abbrev pub items_behind : Kind → (Option Front → List Statement) → Option Front → List Line → List Statement
items_behind kind last begun [] = last begun
items_behind kind last begun (line ∷ lines) =
    option_to_list (ending (role_of kind begun line)) ++ items_behind kind last (going (role_of kind begun line)) lines

-- Where the input ends, it ends a command. Where more may come, a command that is still being joined isn't begun.
abbrev pub last_command : Option Front → List Statement
last_command None = []
last_command (Some front) = Command front.text ∷ []

abbrev pub not_begun : Option Front → List Statement
not_begun front = []

-- the statements of the lines of a whole input
abbrev pub items_of : Kind → List Line → List Statement
items_of kind lines = items_behind kind last_command None lines

-- the statements that end within lines behind which more may come
abbrev pub whole_items_of : Kind → List Line → List Statement
whole_items_of kind lines = items_behind kind not_begun None lines
