-- The stream of the words `script IN OUT`: its statements, its output, and the status that it ends with.
use Rattle.std.specs.Prelude.{◌≡◌, ℕ, Bool, false, Option, None, Some, List, if◌then◌else◌}
use Rattle.desk_rules.specs.Position.{Position}
use Rattle.desk_rules.specs.Made.{DeskOn}
use Rattle.statements.specs.declared.issuer.Issuing.{Issuing}
use Rattle.statements.specs.declared.statement.Statement.{Statement}
use Rattle.statements.specs.declared.status.Status.{Status}
use Rattle.statements.specs.Inputs.{statements}
use Rattle.racf_stream.specs.Stream.{State, number_of, new_stream, step, text}
use Rattle.statements.specs.Runs.{Machine, after, output, status_of}

-- The stream from a position on, whose commands are given so. No disk fails, or one fails the command that is accepted
-- behind so many.
abbrev pub stream : (fault : Option ℕ) → Issuing → (base : Position) → Machine State Statement
stream fault issuing base = record {
  input = statements;
  start = new_stream issuing base;
  step = step fault;
  text = text fault;
  has_refused = λ s. s.has_refused;
  has_failed = λ s. s.halted;
  accepted = number_of;
}

-- what is written for a whole input
abbrev pub script_output : (fault : Option ℕ) → Issuing → (base : Position) → List ℕ → List ℕ
script_output fault issuing base bytes = output (stream fault issuing base) (statements.items bytes) (new_stream issuing base)

-- the status behind a whole input
abbrev pub script_status : (fault : Option ℕ) → Issuing → (base : Position) → List ℕ → Status
script_status fault issuing base bytes =
    status_of (stream fault issuing base) (after (stream fault issuing base) (statements.items bytes) (new_stream issuing base))

-- where a disk failed a command, as the state behind it tells: behind so many commands that were accepted
abbrev pub fault_at : (halted : Bool) → (number : ℕ) → Option ℕ
fault_at halted number = if halted then Some number else None

abbrev pub fault_of : {D : Type 0} → DeskOn D → Option ℕ
fault_of desk = fault_at desk.halted desk.position.image.generation

-- The desk stands where the stream does, and is halted where a disk failed.
pub record StandsAt {D : Type 0} (desk : DeskOn D) (s : State) : Type 0 where
  pub position : desk.position ≡ s.position
  pub halted : desk.halted ≡ s.halted
  pub settled : desk.committed ≡ false
