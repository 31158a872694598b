-- The stream: what stands between two lines, and the answer to each statement.
use Rattle.std.specs.Prelude.{ℕ, ◌+◌, ◌==◌, Bool, true, false, ◌||◌, Option, None, Some, Result, Ok, Err, List, [], if◌then◌else◌}
use Rattle.statements.specs.declared.issuer.Issuing.{Issuing}
use Rattle.statements.specs.declared.statement.Statement.{Statement}
use Rattle.statements.specs.declared.statement.Statement.TheVariants as item
use Rattle.statements.specs.declared.reply.Refusal.{Refusal}
use Rattle.statements.specs.declared.reply.Refusal.TheVariants as refusal
use Rattle.statements.specs.declared.reply.Reply.TheVariants.{Accepted, Refused, DiskFault, Halted}
use Rattle.desk_rules.specs.declared.refusal.Refusal.{Refusal as OfCommand}
use Rattle.journal_records.specs.declared.record.CommandRecord.{CommandRecord}
use Rattle.desk_rules.specs.Outcome.{outcome}
use Rattle.desk_rules.specs.Position.{Position, position_behind}
use Rattle.request_files.specs.declared.acees.NamedAcee.{NamedAcee}
use Rattle.request_files.specs.declared.issuer_line.NamedIssuer.{NamedIssuer}
use Rattle.request_files.specs.declared.line.LineRefusal.{LineRefusal}
use Rattle.request_files.specs.Grammar.{Line, read}
use Rattle.request_files.specs.Worked.{Outcome, worked}
use Rattle.statements.specs.Replies.{reply_line}
use Rattle.statements.specs.IssuerLines.{first_issuer, issuer_named}

-- The position is that of the desk: the number of accepted commands, and the rows that they led to. Beside it stand who
-- gives the commands, and whether lines may name him; the ACEEs in use, each under its name; and whether a disk failed a
-- command.
pub record State : Type 0 where
  pub position : Position
  pub issuing : Issuing
  pub issuer : NamedIssuer
  pub has_refused : Bool
  pub acees : List NamedAcee
  pub halted : Bool

-- the number of the commands that were accepted so far
abbrev pub number_of : State → ℕ
number_of s = s.position.image.generation

unfoldable pub new_stream : Issuing → Position → State
new_stream issuing base =
    record { position = base; issuing = issuing; issuer = first_issuer issuing; has_refused = false; acees = []; halted = false }

-- A statement is answered by a text, and leaves a state.
pub record Answer : Type 0 where
  pub state : State
  pub text : List ℕ

-- A refusal changes nothing, but that a line was refused. The number of the commands accepted so far is printed.
abbrev pub refuse : Refusal → State → Answer
refuse why s = record { state = record s { has_refused = true }; text = reply_line (number_of s) (Refused why) }

-- A request is answered at the position as it stands. It changes the ACEEs alone, and whether a line was refused.
abbrev pub answer_with : Outcome → State → Answer
answer_with outcome s = record { state = record s { has_refused = s.has_refused || outcome.refused; acees = outcome.acees }; text = outcome.text }

abbrev pub answer_line : Result Line LineRefusal → State → Answer
answer_line line s = answer_with (worked s.position.image s.acees line) s

-- A request is answered by what its line says.
unfoldable pub request : List ℕ → State → Answer
request text s = answer_line (read text) s

-- A command that isn't refused is accepted: then the position is the one behind it, and its number is printed.
abbrev pub accept : CommandRecord → State → Answer
accept given s = record { state = record s { position = position_behind s.position given }; text = reply_line (number_of s + 1) Accepted }

-- Where a disk fails it, the position stays, and that is printed; each further command is told so.
abbrev pub fail : State → Answer
fail s = record { state = record s { halted = true }; text = reply_line (number_of s) DiskFault }

abbrev pub halt : State → Answer
halt s = record { state = s; text = reply_line (number_of s) Halted }

-- No disk fails, or one fails the command that is accepted behind so many.
abbrev pub fails_behind : (fault : Option ℕ) → (number : ℕ) → Bool
fails_behind None number = false
fails_behind (Some failed) number = failed == number

abbrev pub answer_outcome : (fault : Option ℕ) → Result CommandRecord OfCommand → State → Answer
answer_outcome fault (Ok given) s = if fails_behind fault (number_of s) then fail s else accept given s
answer_outcome fault (Err why) s = refuse (refusal.Command why) s

-- A command's outcome is that at the position, where the issuer gives it who was named last.
abbrev pub outcome_of : List ℕ → State → Result CommandRecord OfCommand
outcome_of text s = outcome s.position s.issuer.id s.issuer.group text

unfoldable pub command : (fault : Option ℕ) → List ℕ → State → Answer
command fault text s = if s.halted then halt s else answer_outcome fault (outcome_of text s) s

-- A line that names an issuer who fits prints nothing, whoever he is: he is judged at each command. One that doesn't
-- fit, and each one where he is fixed, is refused, and the issuer stays.
abbrev pub issue_by : Result NamedIssuer Refusal → State → Answer
issue_by (Ok issuer) s = record { state = record s { issuer = issuer }; text = [] }
issue_by (Err why) s = refuse why s

abbrev pub name_issuer : List ℕ → State → Answer
name_issuer text s = issue_by (issuer_named s.issuing text) s

-- the answer to each statement
abbrev pub answer : (fault : Option ℕ) → Statement → State → Answer
answer fault (item.Command text) s = command fault text s
answer fault (item.Issuer text) s = name_issuer text s
answer fault (item.Request text) s = request text s
answer fault item.LineTooLong s = refuse refusal.LineTooLong s

-- what stands after a statement
unfoldable pub step : (fault : Option ℕ) → Statement → State → State
step fault item s = (answer fault item s).state

-- what is printed for it
unfoldable pub text : (fault : Option ℕ) → Statement → State → List ℕ
text fault item s = (answer fault item s).text
