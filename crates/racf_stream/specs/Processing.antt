-- What the working of a statement does to the stream and to the replies.
use Rattle.std.specs.Prelude.{◌≡◌, ◌++◌, ℕ, Option, Result, Ok, Err, List}
use Rattle.std.specs.Option.{option_to_list}
use Rattle.desk_rules.specs.Position.{Position}
use Rattle.statements.specs.declared.issuer.Issuing.{Issuing}
use Rattle.statements.specs.declared.statement.Statement.{Statement}
use Rattle.racf_stream.specs.Durable.{StreamOn, fault_in}
use Rattle.statements.specs.Runs.{after, output}
use Rattle.racf_stream.specs.Script.{stream}

-- A statement, where there is one, was worked from the one state to the other, and its text was gathered.
pub record Works {D : Type 0} (issuing : Issuing) (base : Position) (item : Option Statement) (s t : StreamOn D) (gathered now : List ℕ) : Type 0 where
  pub state : t.state ≡ after (stream (fault_in t) issuing base) (option_to_list item) s.state
  pub text : now ≡ gathered ++ output (stream (fault_in t) issuing base) (option_to_list item) s.state

-- Or memory ran out, and nothing has changed.
abbrev pub Processes : {T E D : Type 0} → Issuing → Position → Result T E → Option Statement → (s t : StreamOn D) → (gathered now : List ℕ) → Type 0
Processes issuing base (Ok done) item s t gathered now = Works issuing base item s t gathered now
Processes issuing base (Err fault) item s t gathered now = (t ≡ s) × (now ≡ gathered)
