-- What a reader of an output finds there: the lines that each statement prints, in the order of the statements.
use Rattle.std.specs.Prelude.{◌≡◌, ◌⊎◌, ℕ, ◌==◌, nat_eq, Bool, ◌||◌, Option, Ok, List, [], ◌∷◌, ◌++◌, codes, if◌then◌else◌}
use Rattle.std.specs.List.{starts_with, onto_first}
use Rattle.racf_outside.specs.Lines.{NoFeed}
use Rattle.request_files.specs.Answers.{numbered, never_line}
use Rattle.command_fields.specs.LawfulFields.{IsId}
use Rattle.statements.specs.declared.issuer.Issuing.{Issuing}
use Rattle.statements.specs.declared.issuer.Issuing.TheVariants.{Free, Fixed}
use Rattle.statements.specs.declared.statement.Statement.{Statement}
use Rattle.desk_rules.specs.Position.{Position}
use Rattle.desk_rules.specs.Recovery.{standing}
use Rattle.racf_stream.specs.Stream.{State, new_stream, number_of, step, text}
use Rattle.statements.specs.Inputs.{statements}

-- A statement at its turn: what stands before it, and where a disk fails a command, if one does.
pub record Turn : Type 0 where
  pub fault : Option ℕ
  pub item : Statement
  pub before : State

-- the turns of these statements, from a state on
abbrev pub turns : (fault : Option ℕ) → List Statement → State → List Turn
turns fault [] s = []
turns fault (item ∷ items) s = record { fault = fault; item = item; before = s } ∷ turns fault items (step fault item s)

-- the turns of a whole input, from a position on
abbrev pub input_turns : (fault : Option ℕ) → Issuing → (base : Position) → List ℕ → List Turn
input_turns fault issuing base bytes = turns fault (statements.items bytes) (new_stream issuing base)

-- Some two files stand for this position: where the records behind the checkpoint that counts lead.
abbrev pub IsReached : Position → Type 0
IsReached base = (first : List ℕ) × (second : List ℕ) × (standing first second ≡ Ok base)

-- A fixed issuer's ID is spelled as one, as every value of `Id` is.
abbrev pub IsSpelled : Issuing → Type 0
IsSpelled Free = Unit {0}
IsSpelled (Fixed id) = IsId id

-- what is printed at a turn, and what stands behind it
abbrev pub printed : Turn → List ℕ
printed turn = text turn.fault turn.item turn.before

abbrev pub behind : Turn → State
behind turn = step turn.fault turn.item turn.before

-- What is printed at a turn: nothing; or one line, whose words hold no line feed and stand behind the number of the
-- commands that have been accepted, this one counted; or such a line and an AUDIT line; or that this number is never
-- reached.
pub record PrintsWords (turn : Turn) : Type 0 where
  pub words : List ℕ
  pub no_feed : NoFeed words
  pub is_line : printed turn ≡ numbered (number_of (behind turn)) words

abbrev pub audit_text : List ℕ → List ℕ
audit_text words = codes "AUDIT " ++ words ++ codes "\n"

pub record PrintsAudited (turn : Turn) : Type 0 where
  pub words : List ℕ
  pub no_feed : NoFeed words
  pub audit : List ℕ
  pub no_audit_feed : NoFeed audit
  pub are_lines : printed turn ≡ numbered (number_of (behind turn)) words ++ audit_text audit

abbrev pub PrintsItsLines : Turn → Type 0
PrintsItsLines turn = (printed turn ≡ []) ⊎ (PrintsWords turn ⊎ (PrintsAudited turn ⊎ (printed turn ≡ never_line (number_of (behind turn)))))

-- the lines of an output, each with the line feed (10) that ends it
abbrev pub split_lines : List ℕ → List (List ℕ)
split_lines [] = []
split_lines (byte ∷ bytes) =
    if byte == 10 then (byte ∷ []) ∷ split_lines bytes else onto_first byte (split_lines bytes)

-- the lines that are printed at a turn
abbrev pub printed_lines : Turn → List (List ℕ)
printed_lines turn = split_lines (printed turn)

-- what stands behind the first blank
abbrev pub behind_blank : List ℕ → List ℕ
behind_blank [] = []
behind_blank (byte ∷ bytes) = if byte == 32 then bytes else behind_blank bytes

-- A line says that a line of the input was refused: REFUSED stands behind its number, or NEVER in front.
abbrev pub says_refused : List ℕ → Bool
says_refused line = starts_with nat_eq line (codes "NEVER ") || starts_with nat_eq (behind_blank line) (codes "REFUSED ")

-- A line says that a disk failed a command.
abbrev pub says_failed : List ℕ → Bool
says_failed line = starts_with nat_eq (behind_blank line) (codes "DISKFAULT")
