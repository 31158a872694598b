-- Where a disk fails a command, all that comes before it is as where none fails.
use Rattle.std.proofs.Common.{◌≡◌, ℕ, ◌+◌, ◌≤◌, Bool, true, false, cond, List, [], ◌∷◌, ◌++◌, None, Some, Ok, Err, refl, sym, ◌∙◌, ap, subst, arith}
use Rattle.std.specs.Prelude.{Option, Result, ◌==◌}
use Rattle.std.specs.Io.KnownBytes.{append_known}
use Rattle.std.proofs.lemmas.Bool.{ne_eqb}
use Rattle.journal_records.specs.declared.record.CommandRecord.{CommandRecord}
use Rattle.racf_outside.specs.Reader.{Reader}
use Rattle.desk_rules.specs.Position.{Position}
use Rattle.desk_rules.specs.declared.refusal.Refusal.{Refusal as OfCommand}
use Rattle.request_files.specs.declared.issuer_line.NamedIssuer.{NamedIssuer}
use Rattle.statements.specs.declared.issuer.Issuing.{Issuing}
use Rattle.statements.specs.declared.statement.Statement.{Statement}
use Rattle.statements.specs.declared.statement.Statement.TheVariants as item
use Rattle.statements.specs.declared.reply.Refusal.{Refusal}
use Rattle.statements.specs.IssuerLines.{issuer_named}
use Rattle.racf_stream.specs.Stream.{State, Answer, number_of, new_stream, fails_behind, fail, accept, halt, answer_outcome, outcome_of, command, issue_by, request, answer, step, text}
use Rattle.racf_stream.specs.Script.{stream, fault_at}
use Rattle.statements.specs.Runs.{after, output}
use Rattle.statements.proofs.Folds.{after-append}
use Rattle.statements.proofs.Walk.{Walk, Grows}

-- ---- a state in which no disk has failed
-- an accepted command is failed only where its number says so
not_there : (failed number : ℕ) → number + 1 ≤ failed → (failed == number) ≡ false
not_there failed number h = ne_eqb failed number (λ e. omega (arith, e, h))

outcome_agrees : (failed : ℕ) (o : Result CommandRecord OfCommand) (s : State) → number_of (answer_outcome None o s).state ≤ failed → answer_outcome (Some failed) o s ≡ answer_outcome None o s
outcome_agrees failed (Ok given) s h = ap (λ b. cond b (fail s) (accept given s)) (not_there failed (number_of s) h)
outcome_agrees failed (Err why) s h = refl

command_agrees : (failed : ℕ) (text : List ℕ) (s : State) → s.halted ≡ false → number_of (command None text s).state ≤ failed → command (Some failed) text s ≡ command None text s
unfolding command
command_agrees failed text s runs h =
    let either : Option ℕ → Bool → Answer = λ fault b. cond b (halt s) (answer_outcome fault (outcome_of text s) s) in
    ap (either (Some failed)) runs
    ∙ outcome_agrees failed (outcome_of text s) s (subst (λ (a : Answer). number_of a.state ≤ failed) (ap (either None) runs) h)
    ∙ sym (ap (either None) runs)

answer_agrees : (failed : ℕ) (i : Statement) (s : State) → s.halted ≡ false → number_of (answer None i s).state ≤ failed → answer (Some failed) i s ≡ answer None i s
answer_agrees failed (item.Command text) s runs h = command_agrees failed text s runs h
answer_agrees failed (item.Issuer text) s runs h = refl
answer_agrees failed (item.Request text) s runs h = refl
answer_agrees failed item.LineTooLong s runs h = refl

-- ---- what every statement keeps
-- A statement leaves no smaller number, and, where no disk fails, none that has failed.
pub record Keeps (s : State) (a : Answer) : Type 0 where
  pub grows : number_of s ≤ number_of a.state
  pub runs : s.halted ≡ false → a.state.halted ≡ false

outcome_keeps : (o : Result CommandRecord OfCommand) (s : State) → Keeps s (answer_outcome None o s)
outcome_keeps (Ok given) s = record { grows = omega arith; runs = λ h. h }
outcome_keeps (Err why) s = record { grows = omega arith; runs = λ h. h }

command_keeps : (text : List ℕ) (s : State) → Keeps s (command None text s)
unfolding command
command_keeps text s = by s.halted
  where
    by : (b : Bool) → Keeps s (cond b (halt s) (answer_outcome None (outcome_of text s) s))
    by true = record { grows = omega arith; runs = λ h. h }
    by false = outcome_keeps (outcome_of text s) s

issuer_keeps : (read : Result NamedIssuer Refusal) (s : State) → Keeps s (issue_by read s)
issuer_keeps (Ok issuer) s = record { grows = omega arith; runs = λ h. h }
issuer_keeps (Err why) s = record { grows = omega arith; runs = λ h. h }

request_keeps : (text : List ℕ) (s : State) → Keeps s (request text s)
unfolding request
request_keeps text s = record { grows = omega arith; runs = λ h. h }

pub answer_keeps : (i : Statement) (s : State) → Keeps s (answer None i s)
answer_keeps (item.Command text) s = command_keeps text s
answer_keeps (item.Issuer text) s = issuer_keeps (issuer_named s.issuing text) s
answer_keeps (item.Request text) s = request_keeps text s
answer_keeps item.LineTooLong s = record { grows = omega arith; runs = λ h. h }

pub step_is : (fault : Option ℕ) (i : Statement) (s : State) → step fault i s ≡ (answer fault i s).state
unfolding step
step_is fault i s = refl

pub text_is : (fault : Option ℕ) (i : Statement) (s : State) → text fault i s ≡ (answer fault i s).text
unfolding text
text_is fault i s = refl

step_grows : (i : Statement) (s : State) → number_of s ≤ number_of (step None i s)
step_grows i s = subst (λ t. number_of s ≤ number_of t) (sym (step_is None i s)) (answer_keeps i s).grows

step_runs : (i : Statement) (s : State) → s.halted ≡ false → (step None i s).halted ≡ false
step_runs i s h = subst (λ (t : State). t.halted ≡ false) (sym (step_is None i s)) ((answer_keeps i s).runs h)

all_grow : (issuing : Issuing) (base : Position) (items : List Statement) (s : State) → number_of s ≤ number_of (after (stream None issuing base) items s)
all_grow issuing base [] s = omega arith
all_grow issuing base (i ∷ items) s = let first = step_grows i s in let rest = all_grow issuing base items (step None i s) in omega (arith, first, rest)

-- ---- the statements before the command that is failed
module _ (failed : ℕ) (issuing : Issuing) (base : Position) where
  step_agrees : (i : Statement) (s : State) → s.halted ≡ false → number_of (step None i s) ≤ failed → answer (Some failed) i s ≡ answer None i s
  step_agrees i s runs h = answer_agrees failed i s runs (subst (λ t. number_of t ≤ failed) (step_is None i s) h)

  same_step : (i : Statement) (s : State) → s.halted ≡ false → number_of (step None i s) ≤ failed → step (Some failed) i s ≡ step None i s
  same_step i s runs h = step_is (Some failed) i s ∙ ap (λ (a : Answer). a.state) (step_agrees i s runs h) ∙ sym (step_is None i s)

  same_text : (i : Statement) (s : State) → s.halted ≡ false → number_of (step None i s) ≤ failed → text (Some failed) i s ≡ text None i s
  same_text i s runs h = text_is (Some failed) i s ∙ ap (λ (a : Answer). a.text) (step_agrees i s runs h) ∙ sym (text_is None i s)

  first_below : (i : Statement) (items : List Statement) (s : State) → number_of (after (stream None issuing base) items (step None i s)) ≤ failed → number_of (step None i s) ≤ failed
  first_below i items s h = let rest = all_grow issuing base items (step None i s) in omega (arith, rest, h)

  same_state : (items : List Statement) (s : State) → s.halted ≡ false → number_of (after (stream None issuing base) items s) ≤ failed → after (stream (Some failed) issuing base) items s ≡ after (stream None issuing base) items s
  same_state [] s runs h = refl
  same_state (i ∷ items) s runs h =
      ap (after (stream (Some failed) issuing base) items) (same_step i s runs (first_below i items s h)) ∙ same_state items (step None i s) (step_runs i s runs) h

  same_output : (items : List Statement) (s : State) → s.halted ≡ false → number_of (after (stream None issuing base) items s) ≤ failed → output (stream (Some failed) issuing base) items s ≡ output (stream None issuing base) items s
  same_output [] s runs h = refl
  same_output (i ∷ items) s runs h =
      let below = first_below i items s h in
      ap (λ bytes. bytes ++ output (stream (Some failed) issuing base) items (step (Some failed) i s)) (same_text i s runs below)
      ∙ ap (λ t. text None i s ++ output (stream (Some failed) issuing base) items t) (same_step i s runs below)
      ∙ ap (λ bytes. text None i s ++ bytes) (same_output items (step None i s) (step_runs i s runs) h)

  new_runs : (new_stream issuing base).halted ≡ false
  unfolding new_stream
  new_runs = refl

  all_run : (items : List Statement) (s : State) → s.halted ≡ false → (after (stream None issuing base) items s).halted ≡ false
  all_run [] s h = h
  all_run (i ∷ items) s h = all_run items (step None i s) (step_runs i s h)

  -- so a run without a fault is one that has the fault before it
  before_fault : (source : Option (List ℕ)) (reader : Reader) (slack : ℕ) (s : State) (before now : Option (List ℕ)) (gathered : List ℕ) → number_of s ≤ failed → Walk (stream None issuing base) source reader slack s before now gathered → Walk (stream (Some failed) issuing base) source reader slack s before now gathered
  before_fault source reader slack s before now gathered h w =
      let start = new_stream issuing base in
      let s_told = after (stream None issuing base) w.told start in
      let below : number_of (after (stream None issuing base) w.done start) ≤ failed = subst (λ t. number_of t ≤ failed) w.state h in
      let behind : after (stream None issuing base) w.done start ≡ after (stream None issuing base) w.waiting s_told =
      ap (λ (items : List Statement). after (stream None issuing base) items start) w.parts ∙ after-append (stream None issuing base) w.told w.waiting start in
      let below_waiting : number_of (after (stream None issuing base) w.waiting s_told) ≤ failed = subst (λ t. number_of t ≤ failed) behind below in
      let grown = all_grow issuing base w.waiting s_told in
      let below_told : number_of s_told ≤ failed = omega (arith, grown, below_waiting) in
      let same_told = same_state w.told start new_runs below_told in
      record {
        read = w.read;
        done = w.done;
        given = w.given;
        counted = w.counted;
        goes_on = w.goes_on;
        last = w.last;
        state = w.state ∙ sym (same_state w.done start new_runs below);
        told = w.told;
        waiting = w.waiting;
        parts = w.parts;
        gained = w.gained ∙ ap (append_known before) (sym (same_output w.told start new_runs below_told));
        whole =
            w.whole
            ∙ sym (same_output w.waiting s_told (all_run w.told start new_runs) below_waiting)
            ∙ ap (λ x. output (stream (Some failed) issuing base) w.waiting x) (sym same_told);
        few = subst (λ x. number_of s ≤ number_of x + slack) (sym same_told) w.few;
        alone =
            λ front final is.
            let at : number_of (after (stream None issuing base) (w.told ++ front) start) ≤ number_of s_told = w.alone front final is in
            let below_front : number_of (after (stream None issuing base) (w.told ++ front) start) ≤ failed = omega (arith, at, below_told) in
            subst (λ x. number_of x ≤ number_of (after (stream (Some failed) issuing base) w.told start)) (sym (same_state (w.told ++ front) start new_runs below_front))
            (subst (λ x. number_of (after (stream None issuing base) (w.told ++ front) start) ≤ number_of x) (sym same_told) at);
      }

-- ---- behind a disk that failed
-- a statement leaves the position, and the disk failed still
pub record Rests (s : State) (a : Answer) : Type 0 where
  pub position : a.state.position ≡ s.position
  pub number : number_of a.state ≡ number_of s
  pub halted : a.state.halted ≡ s.halted

command_rests : (fault : Option ℕ) (text : List ℕ) (s : State) → s.halted ≡ true → Rests s (command fault text s)
unfolding command
command_rests fault text s halted =
    subst (Rests s) (sym (ap (λ b. cond b (halt s) (answer_outcome fault (outcome_of text s) s)) halted)) (record { position = refl; number = refl; halted = refl })

issuer_rests : (read : Result NamedIssuer Refusal) (s : State) → Rests s (issue_by read s)
issuer_rests (Ok issuer) s = record { position = refl; number = refl; halted = refl }
issuer_rests (Err why) s = record { position = refl; number = refl; halted = refl }

request_rests : (text : List ℕ) (s : State) → Rests s (request text s)
unfolding request
request_rests text s = record { position = refl; number = refl; halted = refl }

pub answer_rests : (fault : Option ℕ) (i : Statement) (s : State) → s.halted ≡ true → Rests s (answer fault i s)
answer_rests fault (item.Command text) s halted = command_rests fault text s halted
answer_rests fault (item.Issuer text) s halted = issuer_rests (issuer_named s.issuing text) s
answer_rests fault (item.Request text) s halted = request_rests text s
answer_rests fault item.LineTooLong s halted = record { position = refl; number = refl; halted = refl }

pub position_rests : (fault : Option ℕ) (i : Statement) (s : State) → s.halted ≡ true → (step fault i s).position ≡ s.position
position_rests fault i s halted = ap (λ (t : State). t.position) (step_is fault i s) ∙ (answer_rests fault i s halted).position

-- the number grows where a disk fails, too
outcome_grows : (fault : Option ℕ) (o : Result CommandRecord OfCommand) (s : State) → number_of s ≤ number_of (answer_outcome fault o s).state
outcome_grows fault (Err why) s = omega arith
outcome_grows fault (Ok given) s = by (fails_behind fault (number_of s))
  where
    by : (b : Bool) → number_of s ≤ number_of (cond b (fail s) (accept given s)).state
    by true = omega arith
    by false = omega arith

command_grows : (fault : Option ℕ) (text : List ℕ) (s : State) → number_of s ≤ number_of (command fault text s).state
unfolding command
command_grows fault text s = by s.halted
  where
    by : (b : Bool) → number_of s ≤ number_of (cond b (halt s) (answer_outcome fault (outcome_of text s) s)).state
    by true = omega arith
    by false = outcome_grows fault (outcome_of text s) s

answer_grows : (fault : Option ℕ) (i : Statement) (s : State) → number_of s ≤ number_of (answer fault i s).state
answer_grows fault (item.Command text) s = command_grows fault text s
answer_grows fault (item.Issuer text) s = (issuer_keeps (issuer_named s.issuing text) s).grows
answer_grows fault (item.Request text) s = (request_keeps text s).grows
answer_grows fault item.LineTooLong s = omega arith

pub stream_grows : (fault : Option ℕ) (issuing : Issuing) (base : Position) → Grows (stream fault issuing base)
stream_grows fault issuing base i s = subst (λ t. number_of s ≤ number_of t) (sym (step_is fault i s)) (answer_grows fault i s)

-- ---- at most one command more is accepted
outcome_few : (fault : Option ℕ) (o : Result CommandRecord OfCommand) (s : State) → number_of (answer_outcome fault o s).state ≤ number_of s + 1
outcome_few fault (Err why) s = omega arith
outcome_few fault (Ok given) s = by (fails_behind fault (number_of s))
  where
    by : (b : Bool) → number_of (cond b (fail s) (accept given s)).state ≤ number_of s + 1
    by true = omega arith
    by false = omega arith

command_few : (fault : Option ℕ) (text : List ℕ) (s : State) → number_of (command fault text s).state ≤ number_of s + 1
unfolding command
command_few fault text s = by s.halted
  where
    by : (b : Bool) → number_of (cond b (halt s) (answer_outcome fault (outcome_of text s) s)).state ≤ number_of s + 1
    by true = omega arith
    by false = outcome_few fault (outcome_of text s) s

issuer_few : (read : Result NamedIssuer Refusal) (s : State) → number_of (issue_by read s).state ≤ number_of s + 1
issuer_few (Ok issuer) s = omega arith
issuer_few (Err why) s = omega arith

request_few : (text : List ℕ) (s : State) → number_of (request text s).state ≤ number_of s + 1
unfolding request
request_few text s = omega arith

answer_few : (fault : Option ℕ) (i : Statement) (s : State) → number_of (answer fault i s).state ≤ number_of s + 1
answer_few fault (item.Command text) s = command_few fault text s
answer_few fault (item.Issuer text) s = issuer_few (issuer_named s.issuing text) s
answer_few fault (item.Request text) s = request_few text s
answer_few fault item.LineTooLong s = omega arith

pub step_few : (fault : Option ℕ) (i : Statement) (s : State) → number_of (step fault i s) ≤ number_of s + 1
step_few fault i s = subst (λ t. number_of t ≤ number_of s + 1) (sym (step_is fault i s)) (answer_few fault i s)

-- ---- a statement by which a disk may fail
-- A run with the fault that the state before the statement tells is one with the fault that the state behind it tells.
pub fault_of_next : (issuing : Issuing) (base : Position) (source : Option (List ℕ)) (reader : Reader) (slack : ℕ) (i : Statement) (s t : State) (before now : Option (List ℕ)) (gathered : List ℕ)
    → t ≡ (answer (fault_at t.halted (number_of t)) i s).state
    → Walk (stream (fault_at s.halted (number_of s)) issuing base) source reader slack s before now gathered
    → Walk (stream (fault_at t.halted (number_of t)) issuing base) source reader slack s before now gathered
fault_of_next issuing base source reader slack i s t before now gathered is w = by s.halted t.halted refl refl
  where
    walk : Option ℕ → Type 0
    walk fault = Walk (stream fault issuing base) source reader slack s before now gathered

    grown : number_of s ≤ number_of t
    grown = subst (λ u. number_of s ≤ number_of u) (sym is) (answer_grows (fault_at t.halted (number_of t)) i s)

    rests : s.halted ≡ true → (number_of t ≡ number_of s) × (t.halted ≡ s.halted)
    rests halted =
        let r = answer_rests (fault_at t.halted (number_of t)) i s halted in
        (ap number_of is ∙ r.number, ap (λ (u : State). u.halted) is ∙ r.halted)

    by : (a b : Bool) → s.halted ≡ a → t.halted ≡ b → walk (fault_at t.halted (number_of t))
    by true b was now =
        let r = rests was in
        subst walk (ap (λ h. fault_at h (number_of s)) (sym r.1) ∙ ap (fault_at t.halted) (sym r.0)) w
    by false false was now =
        subst walk (ap (λ h. fault_at h (number_of s)) was ∙ sym (ap (λ h. fault_at h (number_of t)) now)) w
    by false true was now =
        subst walk (sym (ap (λ h. fault_at h (number_of t)) now))
        (before_fault (number_of t) issuing base source reader slack s before _ gathered grown (subst walk (ap (λ h. fault_at h (number_of s)) was) w))
