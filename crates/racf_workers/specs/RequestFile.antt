-- What a request file prints: each line is answered at some front of the history, and the fronts only grow.
use Rattle.std.specs.Prelude.{◌≡◌, ◌≢◌, ◌⊎◌, ◌≤◌, ℕ, Bool, true, false, ◌||◌, List, [], ◌∷◌, ◌++◌, Option, is_some, is_none, Result, Ok, Err}
use Rattle.racf_outside.specs.Lines as text
use Rattle.desk_rules.specs.Position.{Position}
use Rattle.command_history.specs.declared.events.Event.{Event}
use Rattle.command_history.specs.Events.{is_ended, Extends}
use Rattle.command_history.specs.Reached.{reached}
use Rattle.racroute.specs.Core.{number_behind}
use Rattle.request_files.specs.declared.acees.NamedAcee.{NamedAcee}
use Rattle.request_files.specs.declared.line.LineRefusal.{LineRefusal}
use Rattle.request_files.specs.Acees.{acee_named, put_refusal}
use Rattle.request_files.specs.Grammar.{Line, Verify, Auth, Fastauth, Delete, After, Skip}
use Rattle.request_files.specs.Worked.{Outcome, worked}
use Rattle.statements.specs.declared.status.Status.{Status}
use Rattle.statements.specs.declared.status.Status.TheVariants.{NoMemory, WriteFault}
use Rattle.statements.specs.Runs.{Machine, Ran}
use Rattle.racf_workers.specs.Lines.{request_lines, asked}

-- ---- the machine

-- A line at its turn: the ACEEs in use before it, what had been seen, and the front of the history at which it was
-- answered.
pub record Turn : Type 0 where
  pub line : text.Line
  pub acees : List NamedAcee
  pub seen : List Event
  pub front : List Event

-- What stands between two lines: the ACEEs in use, whether a line was refused, and what has been seen of the history.
-- `fronts` are those at which the lines to come are answered, which the threads of a run make; `turns` are those of the
-- lines so far.
pub record FileState : Type 0 where
  pub acees : List NamedAcee
  pub has_refused : Bool
  pub turns : List Turn
  pub seen : List Event
  pub fronts : List (List Event)

abbrev pub file_state : List NamedAcee → Bool → List Turn → List Event → List (List Event) → FileState
file_state acees has_refused turns seen fronts =
    record { acees = acees; has_refused = has_refused; turns = turns; seen = seen; fronts = fronts }

abbrev pub new_file : List Event → List (List Event) → FileState
new_file seen fronts = file_state [] false [] seen fronts

-- the front of the next line: where none is told, what was seen stays
abbrev pub front_of : List Event → List (List Event) → List Event
front_of seen [] = seen
front_of seen (front ∷ fronts) = front

abbrev pub behind_first : List (List Event) → List (List Event)
behind_first [] = []
behind_first (front ∷ fronts) = fronts

-- a line's turn
abbrev pub turn_of : text.Line → FileState → Turn
turn_of line s = record { line = line; acees = s.acees; seen = s.seen; front = front_of s.seen s.fronts }

-- What a line does on the image behind a front: its text, its refusal and the ACEEs are those of request lines.
unfoldable pub outcome_at : Position → (front : List Event) → List NamedAcee → Result Line LineRefusal → Outcome
outcome_at base front acees request = worked (reached base front).image acees request

abbrev pub answered : Position → Turn → Outcome
answered base turn = outcome_at base turn.front turn.acees (asked turn.line)

-- what stands behind a line that had this outcome
abbrev pub behind : Outcome → Turn → FileState → FileState
behind outcome turn s = file_state outcome.acees (s.has_refused || outcome.refused) (s.turns ++ turn ∷ []) turn.front (behind_first s.fronts)

unfoldable pub step : Position → text.Line → FileState → FileState
step base line s = behind (answered base (turn_of line s)) (turn_of line s) s

-- what is printed for it
unfoldable pub text_at : Position → text.Line → FileState → List ℕ
text_at base line s = (answered base (turn_of line s)).text

-- A request file whose lines are answered at these fronts, one after another, by somebody who had seen so much.
abbrev pub request_machine : (base : Position) → (seen : List Event) → (fronts : List (List Event)) → Machine FileState text.Line
request_machine base seen fronts = record {
  input = request_lines;
  start = new_file seen fronts;
  step = step base;
  text = text_at base;
  has_refused = λ s. s.has_refused;
  has_failed = λ s. false;
  accepted = λ s. 0;
}

-- ---- the fronts

-- Whether a line reaches a decision: VERIFY where an ACEE can be put, AUTH and FASTAUTH where theirs is there.
abbrev pub decides : List NamedAcee → Result Line LineRefusal → Bool
decides acees (Ok (Verify name request)) = is_none (put_refusal name acees)
decides acees (Ok (Auth name access)) = is_some (acee_named name acees)
decides acees (Ok (Fastauth name access)) = is_some (acee_named name acees)
decides acees (Ok (Delete name)) = false
decides acees (Ok (After number)) = false
decides acees (Ok Skip) = false
decides acees (Err why) = false

-- A wait ends at a front that is long enough, or at the end of the history.
abbrev pub IsAwaited : Position → ℕ → List Event → Type 0
IsAwaited base number front = (number ≤ number_behind base front) ⊎ (is_ended front ≡ true)

-- Where a line's front may lie: a line that decides nothing leaves the front, but for a wait.
abbrev pub Moves : Position → List NamedAcee → Result Line LineRefusal → (seen front : List Event) → Type 0
Moves base acees (Ok (After number)) seen front = IsAwaited base number front
Moves base acees request seen front = decides acees request ≡ false → front ≡ seen

-- A line was answered at a front that extends what had been seen, and may lie there.
pub record IsRight (base : Position) (turn : Turn) : Type 0 where
  pub later : Extends turn.seen turn.front
  pub moved : Moves base turn.acees (asked turn.line) turn.seen turn.front

abbrev pub Course : Position → List Turn → Type 0
Course base [] = Unit {0}
Course base (turn ∷ turns) = IsRight base turn × Course base turns

-- ---- a whole file

-- Behind the lines that were answered: each turn was right, and all that was seen is a beginning of what the caller has
-- seen now. It is the same, unless memory ran out before a line was answered for which the caller had looked for more, or
-- what waits couldn't be written before it.
pub record Stands (base : Position) (status : Status) (now : List Event) (s : FileState) : Type 0 where
  pub course : Course base s.turns
  pub later : Extends s.seen now
  pub exact : status ≢ NoMemory → status ≢ WriteFault → s.seen ≡ now

-- The output of a request file is what its lines print, each answered at some front of the history that its caller had
-- seen then; the fronts only grow, from what the caller had seen before.
pub record Answers (base : Position) (before after : List Event) (read_failed write_failed : Type 0) (status : Status) (source left sunk now : Option (List ℕ)) : Type 0 where
  pub fronts : List (List Event)
  pub ran : Ran (request_machine base before fronts) (Stands base status after) read_failed write_failed status source left sunk now
