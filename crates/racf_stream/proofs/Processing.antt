-- A statement that was worked, and whose text was gathered.
use Rattle.std.proofs.Common.{◌≡◌, List, ℕ, ◌++◌, None, Some, refl, sym, ◌∙◌, ap, append-nil}
use Rattle.std.specs.Prelude.{Option, Result, Ok, Err, OnOk, OnErr}
use Rattle.desk_rules.specs.Position.{Position}
use Rattle.statements.specs.declared.issuer.Issuing.{Issuing}
use Rattle.statements.specs.declared.statement.Statement.{Statement}
use Rattle.racf_stream.specs.Durable.{StreamOn, DoesOn, fault_in}
use Rattle.racf_stream.specs.Stream.{answer, text}
use Rattle.racf_stream.specs.Processing.{Works, Processes}
use Rattle.racf_stream.proofs.Faults.{step_is, text_is}

worked : {D : Type 0} (issuing : Issuing) (base : Position) (item : Statement) (s t : StreamOn D) (old out : List ℕ) → DoesOn (answer (fault_in t) item) s t old out → Works issuing base (Some item) s t old out
worked issuing base item s t old out d =
    record {
      state = d.left ∙ sym (step_is (fault_in t) item s.state);
      text = d.wrote ∙ ap (λ more. old ++ more) (sym (text_is (fault_in t) item s.state) ∙ sym (append-nil (text (fault_in t) item s.state)));
    }

pub worked_by : {T E D : Type 0} (issuing : Issuing) (base : Position) (r : Result T E) (item : Statement) (given : Option Statement) (s t : StreamOn D) (old now : List ℕ) → given ≡ Some item
    → OnOk r (DoesOn (answer (fault_in t) item) s t old now) → OnErr r ((now ≡ old) × (t ≡ s)) → Processes issuing base r given s t old now
worked_by issuing base (Ok done) item given s t old now is ok err = rw is (worked issuing base item s t old now ok)
worked_by issuing base (Err fault) item given s t old now is ok err = (err.1, err.0)

-- no statement
pub none_worked : {D : Type 0} (issuing : Issuing) (base : Position) (s : StreamOn D) (old : List ℕ) → Works issuing base None s s old old
none_worked issuing base s old = record { state = refl; text = sym (append-nil old) }
