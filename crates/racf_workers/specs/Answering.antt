-- The steps in which the lines of a request file are answered.
use Rattle.std.specs.Prelude.{◌≡◌, ◌++◌, ◌||◌, ℕ, Bool, List, Option, Some, None, Result}
use Rattle.racf_outside.specs.Causes.{Rose}
use Rattle.desk_rules.specs.Position.{Position}
use Rattle.command_history.specs.declared.events.Event.{Event}
use Rattle.request_files.specs.declared.acees.NamedAcee.{NamedAcee}
use Rattle.request_files.specs.declared.line.LineRefusal.{LineRefusal}
use Rattle.request_files.specs.declared.line.RequestLine.{RequestLine}
use Rattle.request_files.specs.Grammar.{Line}
use Rattle.request_files.specs.Seen.{line_read}
use Rattle.request_files.specs.Worked.{Outcome}
use Rattle.statements.specs.Gathering.{Settles, IsCutShort}
use Rattle.racf_workers.specs.declared.answering.Unanswered.{Unanswered}
use Rattle.racf_workers.specs.declared.answering.Unanswered.TheVariants.{WriteFault, NoMemory}
use Rattle.racf_workers.specs.RequestFile.{Moves, outcome_at}

-- What stands between two lines, but for the history.
pub record Between : Type 0 where
  pub acees : List NamedAcee
  pub has_refused : Bool

-- An outcome was gathered.
pub record Gathers (outcome : Outcome) (old new : Between) (gathered now : List ℕ) : Type 0 where
  pub text : now ≡ gathered ++ outcome.text
  pub acees : new.acees ≡ outcome.acees
  pub refused : new.has_refused ≡ (old.has_refused || outcome.refused)

-- A line was answered at the front `front`. What was gathered before is gathered still, or was written before a wait.
pub record AnswersAt (base : Position) (request : Result Line LineRefusal) (seen front : List Event) (old new : Between) (gathered now : List ℕ) (before after : Option (List ℕ)) : Type 0 where
  pub rest : List ℕ
  pub settled : Settles gathered rest before after
  pub moved : Moves base old.acees request seen front
  pub gathers : Gathers (outcome_at base front old.acees request) old new rest now

-- A line was skipped.
pub record Skips (seen front : List Event) (old new : Between) (gathered now : List ℕ) (before after : Option (List ℕ)) : Type 0 where
  pub front_is : front ≡ seen
  pub state : new ≡ old
  pub gathered_is : now ≡ gathered
  pub sink : after ≡ before

abbrev pub AnswersNext : Position → Option (Result RequestLine LineRefusal) → (seen front : List Event) → (old new : Between) → (gathered now : List ℕ) → (before after : Option (List ℕ)) → Type 0
AnswersNext base None seen front old new gathered now before after = Skips seen front old new gathered now before after
AnswersNext base (Some told) seen front old new gathered now before after = AnswersAt base (line_read told) seen front old new gathered now before after

-- A line wasn't answered: memory ran out, or what was gathered couldn't be written before a wait.
abbrev pub LeavesUnanswered : Unanswered → (seen front : List Event) → (old new : Between) → (gathered now : List ℕ) → (before after : Option (List ℕ)) → Type 0
LeavesUnanswered NoMemory seen front old new gathered now before after = (new ≡ old) × Settles gathered now before after
LeavesUnanswered WriteFault seen front old new gathered now before after = (new ≡ old) × (front ≡ seen) × IsCutShort gathered before after

abbrev pub IsWriteFault : Unanswered → (before now : ℕ) → Type 0
IsWriteFault NoMemory before now = Unit {0}
IsWriteFault WriteFault before now = Rose before now
