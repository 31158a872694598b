-- The run of the stream: how it begins, how a statement goes on with it, and what stands at each of its stops.
use Rattle.std.proofs.Common.{◌≡◌, ℕ, ◌+◌, ◌≤◌, ◌^◌, Bool, false, List, [], ◌∷◌, None, Some, Err, inl, inr, refl, sym, ◌∙◌, ap, subst, arith}
use Rattle.std.specs.Prelude.{Option}
use Rattle.std.specs.Option.{option_to_list}
use Rattle.racf_outside.specs.Causes.{Rose}
use Rattle.racf_outside.specs.Reader.{Reader, at_start}
use Rattle.desk_rules.specs.Position.{Position}
use Rattle.statements.specs.declared.issuer.Issuing.{Issuing}
use Rattle.statements.specs.declared.stopping.Stop.{Stop}
use Rattle.statements.specs.declared.stopping.Stop.TheVariants as stop
use Rattle.statements.specs.declared.statement.Kind.TheVariants as kind
use Rattle.statements.specs.declared.statement.Statement.{Statement}
use Rattle.statements.specs.declared.status.Status.{Status}
use Rattle.statements.specs.declared.status.Status.TheVariants.{WriteFault}
use Rattle.racf_stream.specs.Durable.{StreamOn, fault_in}
use Rattle.statements.specs.Runs.{Machine, Ran}
use Rattle.statements.specs.Gathering.{Acknowledges, IsCutShort}
use Rattle.statements.specs.NextStatement.{TakesStatements, NextsStatement}
use Rattle.racf_stream.specs.Stream.{State, number_of, new_stream}
use Rattle.racf_stream.specs.Script.{stream, fault_at}
use Rattle.statements.specs.Inputs.{statements}
use Rattle.racf_stream.specs.Processing.{Works}
use Rattle.statements.specs.Stopping.{Ends, unless_failed}
use Rattle.racf_stream.proofs.Faults.{step_is, step_few, stream_grows, fault_of_next}
use Rattle.statements.proofs.FrontLaws.{no_items}
use Rattle.statements.proofs.Walk.{Walk, Walk-none, Walk-items, Walk-settles, Walk-written}
use Rattle.statements.proofs.Stops as stops

-- a run so far, with the fault that the state tells
abbrev pub StreamWalk : Issuing → (base : Position) → (source : Option (List ℕ)) → Reader → (slack : ℕ) → State → (before now : Option (List ℕ)) → (gathered : List ℕ) → Type 0
StreamWalk issuing base source reader slack s before now gathered = Walk (stream (fault_at s.halted (number_of s)) issuing base) source reader slack s before now gathered

begun_at : (issuing : Issuing) (base : Position) (source before : Option (List ℕ)) (faults : ℕ) → StreamWalk issuing base source (at_start source faults) 0 (new_stream issuing base) before before []
begun_at issuing base source before faults = Walk-none (stream (fault_at (new_stream issuing base).halted (number_of (new_stream issuing base))) issuing base) source before faults

pub begun : (issuing : Issuing) (base : Position) (reader : Reader) (s : State) (before : Option (List ℕ)) (gathered : List ℕ) → reader ≡ at_start reader.left reader.faults → s ≡ new_stream issuing base → gathered ≡ [] → StreamWalk issuing base reader.left reader 0 s before before gathered
begun issuing base reader s before gathered fresh new none =
    let at_new : StreamWalk issuing base reader.left reader 0 (new_stream issuing base) before before [] =
    subst (λ (r : Reader). StreamWalk issuing base reader.left r 0 (new_stream issuing base) before before []) (sym fresh) (begun_at issuing base reader.left before reader.faults) in
    let at_none : StreamWalk issuing base reader.left reader 0 s before before [] = subst (λ (x : State). StreamWalk issuing base reader.left reader 0 x before before []) (sym new) at_new in
    subst (λ (bytes : List ℕ). StreamWalk issuing base reader.left reader 0 s before before bytes) (sym none) at_none

-- no disk has failed then
pub new_runs : (issuing : Issuing) (base : Position) (s : State) → s ≡ new_stream issuing base → s.halted ≡ false
unfolding new_stream
new_runs issuing base s new = ap (λ (x : State). x.halted) new

-- a statement was worked, or a line was skipped
pub goes_on : {D : Type 0} (issuing : Issuing) (base : Position) (given : Option Statement) (bytes : List ℕ) (source : Option (List ℕ)) (old new : Reader) (next : ℕ) (s t : StreamOn D) (before now : Option (List ℕ)) (gathered more : List ℕ)
    → StreamWalk issuing base source old 0 s.state before now gathered → TakesStatements statements (option_to_list given) bytes old new → Works issuing base given s t gathered more → number_of t.state ≤ number_of s.state + next
    → StreamWalk issuing base source new next t.state before now more
goes_on issuing base None bytes source old new next s t before now gathered more w takes works few =
    Walk-items (stream (fault_in t) issuing base) [] bytes source old new next s.state t.state before now gathered more
    (subst (λ (x : State). Walk (stream (fault_at x.halted (number_of x)) issuing base) source old 0 s.state before now gathered) (sym works.state) w) takes tt works.state works.text (omega (arith, few))
goes_on issuing base (Some item) bytes source old new next s t before now gathered more w takes works few =
    Walk-items (stream (fault_in t) issuing base) (item ∷ []) bytes source old new next s.state t.state before now gathered more
    (fault_of_next issuing base source old 0 item s.state t.state before now gathered (works.state ∙ step_is (fault_in t) item s.state) w) takes tt works.state works.text (omega (arith, few))

-- it accepts one command at most
pub works_few : {D : Type 0} (issuing : Issuing) (base : Position) (item : Statement) (s t : StreamOn D) (gathered more : List ℕ) → Works issuing base (Some item) s t gathered more → number_of t.state ≤ number_of s.state + 1
works_few issuing base item s t gathered more works =
    subst (λ (x : State). number_of x ≤ number_of s.state + 1) (sym works.state) (step_few (fault_in t) item s.state)

-- and what is gathered then waits on only where it accepted none
pub acknowledged : {D : Type 0} (issuing : Issuing) (base : Position) (item : Statement) (bytes : List ℕ) (source : Option (List ℕ)) (old new : Reader) (s t : StreamOn D) (before now then : Option (List ℕ)) (gathered more rest : List ℕ)
    → StreamWalk issuing base source old 0 s.state before now gathered → TakesStatements statements (item ∷ []) bytes old new → Works issuing base (Some item) s t gathered more
    → Acknowledges (number_of t.state ≡ number_of s.state) more rest now then → StreamWalk issuing base source new 0 t.state before then rest
acknowledged issuing base item bytes source old new s t before now then gathered more rest w takes works (inl kept) =
    let same = kept.0 in
    Walk-settles (stream (fault_in t) issuing base) source new 0 t.state before now then more rest
    (goes_on issuing base (Some item) bytes source old new 0 s t before now gathered more w takes works (omega (arith, same))) (inl (kept.1, kept.2))
acknowledged issuing base item bytes source old new s t before now then gathered more rest w takes works (inr wrote) =
    Walk-written (stream (fault_in t) issuing base) source new 1 0 t.state before now then more rest
    (goes_on issuing base (Some item) bytes source old new 1 s t before now gathered more w takes works (works_few issuing base item s t gathered more works)) wrote.0 wrote.1

-- the status of a write that failed, by what the state tells
pub failed_status : (status : Status) (told halted : Bool) → status ≡ unless_failed told WriteFault → told ≡ halted → status ≡ unless_failed halted WriteFault
failed_status status told halted is same = is ∙ ap (λ failed. unless_failed failed WriteFault) same

-- R and W are why a read or a write may fail
module _ (issuing : Issuing) (base : Position) (P : State → Type 0) (R W : Type 0) (source : Option (List ℕ)) (old new : Reader) (slack : ℕ) (s : State) (before now then : Option (List ℕ)) (gathered : List ℕ) (w : StreamWalk issuing base source old slack s before now gathered) (p : P s) (at_most : slack ≤ 1) where
  abbrev pub m : Machine State Statement
  m = stream (fault_at s.halted (number_of s)) issuing base

  -- what is gathered couldn't be written
  pub cut : W → (status : Status) → IsCutShort gathered now then → status ≡ unless_failed s.halted WriteFault → Ran m P R W status source new.left before then
  cut = stops.cut m P R W source old new slack s before now then gathered w p (stream_grows (fault_at s.halted (number_of s)) issuing base) at_most

  -- no item came
  pub stopped : (why : Stop) (status : Status) → NextsStatement kind.Stream (Err why) old new → new.passed ≤ 2 ^ 28 → (Rose old.faults new.faults → R) → Ends W why s.halted s.has_refused status gathered now then → Ran m P R W status source new.left before then
  stopped = stops.stopped m P R W source old new slack s before now then gathered w p (stream_grows (fault_at s.halted (number_of s)) issuing base) at_most (no_items kind.Stream)

  -- an item was not answered
  pub unanswered : (status : Status) → Ends W stop.NoMemory s.halted s.has_refused status gathered now then → Ran m P R W status source new.left before then
  unanswered = stops.unanswered m P R W source old new slack s before now then gathered w p (stream_grows (fault_at s.halted (number_of s)) issuing base) at_most

-- likewise where the stream is known to be as it was
pub unanswered_at : {D : Type 0} (issuing : Issuing) (base : Position) (R W : Type 0) (source : Option (List ℕ)) (old : Reader) (left : Option (List ℕ)) (s t : StreamOn D) (before now then : Option (List ℕ)) (gathered more : List ℕ) (status : Status)
    → StreamWalk issuing base source old 0 s.state before now gathered → (t ≡ s) × (more ≡ gathered) → Ends W stop.NoMemory t.state.halted t.state.has_refused status more now then
    → Ran (stream (fault_in t) issuing base) (λ (x : State). t.state ≡ x) R W status source left before then
unanswered_at issuing base R W source old left s t before now then gathered more status w same ends =
    let walk : StreamWalk issuing base source old 0 t.state before now more =
    subst (λ (bytes : List ℕ). StreamWalk issuing base source old 0 t.state before now bytes) (sym same.1)
    (subst (λ x. StreamWalk issuing base source old 0 x before now gathered) (ap (λ x. x.state) (sym same.0)) w) in
    unanswered issuing base (λ (x : State). t.state ≡ x) R W source old (record old { left = left }) 0 t.state before now then more walk refl (omega arith) status ends
