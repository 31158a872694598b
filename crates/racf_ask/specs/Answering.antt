-- The steps in which questions are answered.
use Rattle.std.specs.Prelude.{◌≡◌, ◌++◌, ◌||◌, ℕ, Bool, false, List, [], ◌∷◌, Option, Some, None, Result, Ok, Err}
use Rattle.racf_outside.specs.Lines as text
use Rattle.racf_outside.specs.Reader.{Reader}
use Rattle.raclist_image.specs.Imaged.{Imaged}
use Rattle.request_files.specs.declared.acees.NamedAcee.{NamedAcee}
use Rattle.request_files.specs.declared.line.LineRefusal.{LineRefusal}
use Rattle.request_files.specs.declared.line.RequestLine.{RequestLine}
use Rattle.request_files.specs.Seen.{line_read}
use Rattle.request_files.specs.Worked.{Outcome, worked}
use Rattle.statements.specs.declared.stopping.Stop.{Stop}
use Rattle.statements.specs.NextStatement.{TakesStatements, Stops}
use Rattle.racf_workers.specs.Lines.{unskipped, IsRead}
use Rattle.racf_ask.specs.Asking.{all_lines, shown}

-- What stands between two lines.
pub record Between : Type 0 where
  pub acees : List NamedAcee
  pub has_refused : Bool
  pub lines : ℕ

-- What the next line asks for, or that it is skipped, or why no line comes.
abbrev pub NextsLine : Result (Option (Result RequestLine LineRefusal)) Stop → Reader → Reader → Type 0
NextsLine (Ok told) old new =
    (line : text.Line) × (bytes : List ℕ) × TakesStatements all_lines (line ∷ []) bytes old new × IsRead (unskipped line) told
NextsLine (Err stop) old new = Stops all_lines stop old new

-- What a line does on an image: nothing, where it is skipped.
abbrev pub outcome_on : Imaged → List NamedAcee → Option (Result RequestLine LineRefusal) → Outcome
outcome_on image acees None = record { text = []; refused = false; acees = acees }
outcome_on image acees (Some told) = worked image acees (line_read told)

-- An outcome was gathered, as that of the line with this number.
pub record Gathers (numbered : Bool) (number : ℕ) (outcome : Outcome) (old new : Between) (gathered now : List ℕ) : Type 0 where
  pub text : now ≡ gathered ++ shown numbered number outcome.text
  pub acees : new.acees ≡ outcome.acees
  pub refused : new.has_refused ≡ (old.has_refused || outcome.refused)
  pub lines : new.lines ≡ number
