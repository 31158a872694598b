-- The lines of a request file, and what each asks for. Each is a request by itself: none is joined to another.
use Rattle.std.specs.Prelude.{◌≡◌, ℕ, List, [], ◌∷◌, ◌++◌, Option, Some, None, Result, Ok, Err, if◌then◌else◌}
use Rattle.std.specs.Option.{option_to_list}
use Rattle.racf_outside.specs.Lines as text
use Rattle.racf_outside.specs.Reader.{Reader}
use Rattle.request_files.specs.declared.line.RequestLine.{RequestLine}
use Rattle.request_files.specs.declared.line.LineRefusal.{LineRefusal}
use Rattle.request_files.specs.declared.line.LineRefusal.TheVariants.{LineTooLong}
use Rattle.request_files.specs.Grammar.{Line, read}
use Rattle.request_files.specs.Seen.{line_read}
use Rattle.statements.specs.declared.stopping.Stop.{Stop}
use Rattle.statements.specs.NextStatement.{TakesStatements, Stops}
use Rattle.statements.specs.Runs.{Input}
use Rattle.statements.specs.Statements.{is_skipped}

-- A line of blanks and tabs alone, and a comment, are skipped.
abbrev pub unskipped : text.Line → Option text.Line
unskipped text.TooLong = Some text.TooLong
unskipped (text.Text bytes) = if is_skipped bytes then None else Some (text.Text bytes)

abbrev pub all_unskipped : List text.Line → List text.Line
all_unskipped [] = []
all_unskipped (line ∷ lines) = option_to_list (unskipped line) ++ all_unskipped lines

-- the lines of a request file that aren't skipped
unfoldable pub request_lines : Input text.Line
request_lines = record {
  items = λ bytes. all_unskipped (text.lines bytes);
  whole_items = λ bytes. all_unskipped (text.whole_lines bytes);
}

-- What a line asks for, or why it is refused. A command is no request: its first word doesn't fit.
abbrev pub asked : text.Line → Result Line LineRefusal
asked text.TooLong = Err LineTooLong
asked (text.Text bytes) = read bytes

-- what was read of a line, where it isn't skipped
abbrev pub IsRead : Option text.Line → Option (Result RequestLine LineRefusal) → Type 0
IsRead None None = Unit {0}
IsRead (Some line) (Some told) = line_read told ≡ asked line
IsRead None (Some told) = ⊥
IsRead (Some line) None = ⊥

-- What the next line asks for, or that it is skipped, or why no line comes.
abbrev pub NextsRequest : Result (Option (Result RequestLine LineRefusal)) Stop → Reader → Reader → Type 0
NextsRequest (Ok told) old new =
    (line : Option text.Line) × (bytes : List ℕ) × TakesStatements request_lines (option_to_list line) bytes old new × IsRead line told
NextsRequest (Err stop) old new = Stops request_lines stop old new
