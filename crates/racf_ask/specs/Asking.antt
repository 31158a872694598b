-- What is printed for questions alone: what a request file prints over the empty history, with the numbers of the
-- input's lines or without.
use Rattle.std.specs.Prelude.{◌≡◌, ℕ, ◌+◌, ◌==◌, Bool, false, List, [], ◌∷◌, ◌++◌, Option, Some, None, codes, decimal, if◌then◌else◌}
use Rattle.std.specs.List.{flat_map, onto_first}
use Rattle.racf_outside.specs.Lines as text
use Rattle.desk_rules.specs.Position.{Position}
use Rattle.command_history.specs.declared.events.Event.{Event}
use Rattle.command_history.specs.Events.{entries_of}
use Rattle.statements.specs.declared.status.Status.{Status}
use Rattle.statements.specs.Runs.{Input, Machine, after, output, status_of}
use Rattle.racf_workers.specs.Lines.{unskipped}
use Rattle.racf_workers.specs.RequestFile as file
use Rattle.racf_workers.specs.RequestFile.{FileState, new_file}

-- all lines of an input: those that are skipped are counted too
unfoldable pub all_lines : Input text.Line
all_lines = record {
  items = λ bytes. text.lines bytes;
  whole_items = λ bytes. text.whole_lines bytes;
}

-- How many lines came, and what stands between two lines of a request file.
pub record AskState : Type 0 where
  pub lines : ℕ
  pub file : FileState

-- before the first line, over the empty history
abbrev pub new_asking : AskState
new_asking = record { lines = 0; file = new_file [] [] }

-- the lines of a text, each with the line feed (10) that ends it
abbrev pub split_lines : List ℕ → List (List ℕ)
split_lines [] = []
split_lines (byte ∷ bytes) =
    if byte == 10 then (byte ∷ []) ∷ split_lines bytes else onto_first byte (split_lines bytes)

-- a number and a blank in front of each line
abbrev pub number_front : ℕ → List ℕ
number_front number = decimal number ++ codes " "

unfoldable pub with_number : ℕ → List ℕ → List ℕ
with_number number printed = flat_map (λ (line : List ℕ). number_front number ++ line) (split_lines printed)

abbrev pub shown : (numbered : Bool) → ℕ → List ℕ → List ℕ
shown numbered number printed = if numbered then with_number number printed else printed

-- A line does what it does in a request file, and prints that; one that is skipped does nothing.
abbrev pub step_unless : Position → Option text.Line → FileState → FileState
step_unless base None s = s
step_unless base (Some line) s = file.step base line s

abbrev pub text_unless : Position → Option text.Line → FileState → List ℕ
text_unless base None s = []
text_unless base (Some line) s = file.text_at base line s

unfoldable pub step : Position → text.Line → AskState → AskState
step base line s = record { lines = s.lines + 1; file = step_unless base (unskipped line) s.file }

-- what is printed for it, where the numbers of the input's lines are wanted or not
unfoldable pub text_at : (numbered : Bool) → Position → text.Line → AskState → List ℕ
text_at numbered base line s = shown numbered (s.lines + 1) (text_unless base (unskipped line) s.file)

-- questions at a position
abbrev pub asking : (numbered : Bool) → (base : Position) → Machine AskState text.Line
asking numbered base = record {
  input = all_lines;
  start = new_asking;
  step = step base;
  text = text_at numbered base;
  has_refused = λ s. s.file.has_refused;
  has_failed = λ s. false;
  accepted = λ s. 0;
}

-- a front of the history in which no command was accepted
abbrev pub IsSilent : List Event → Type 0
IsSilent front = entries_of front ≡ []

-- what is written for a whole input, and the status behind it
abbrev pub ask_output : (numbered : Bool) → (base : Position) → List ℕ → List ℕ
ask_output numbered base bytes = output (asking numbered base) (text.lines bytes) new_asking

abbrev pub ask_status : (numbered : Bool) → (base : Position) → List ℕ → Status
ask_status numbered base bytes =
    status_of (asking numbered base) (after (asking numbered base) (text.lines bytes) new_asking)
