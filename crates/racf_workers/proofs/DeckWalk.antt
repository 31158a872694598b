-- A deck so far: what its commands met, and what a stop leaves.
use Rattle.std.proofs.Common.{◌≡◌, ◌≢◌, ℕ, ◌+◌, ◌≤◌, ◌<◌, ◌^◌, Bool, true, false, List, [], ◌∷◌, ◌++◌, length, None, Some, Ok, Err, inl, inr, refl, sym, ◌∙◌, ap, subst, arith, append_assoc, append-nil}
use Rattle.std.specs.Prelude.{Option, Result, IfSome, is_some, ◌||◌, ◌⊎◌}
use Rattle.std.proofs.lemmas.Bool.{or_right}
use Rattle.std.proofs.Math.Bool.{or-false, or_assoc}
use Rattle.std.specs.Io.KnownBytes.{append_known}
use Rattle.racf_outside.specs.Causes.{Rose}
use Rattle.std.specs.Option.{option_to_list}
use Rattle.racf_outside.specs.Reader.{Reader, at_start}
use Rattle.desk_rules.specs.Position.{Position}
use Rattle.desk_rules.specs.declared.answers.Reply.{Reply}
use Rattle.desk_rules.specs.declared.answers.Reply.TheVariants as reply
use Rattle.command_history.specs.declared.events.Event.{Event}
use Rattle.command_history.specs.Events.{Extends, failed_of}
use Rattle.racroute.specs.Core.{Passing}
use Rattle.request_files.specs.declared.issuer_line.NamedIssuer.{NamedIssuer}
use Rattle.statements.specs.IssuerLines.{issuer_named}
use Rattle.statements.specs.declared.issuer.Issuing.{Issuing}
use Rattle.statements.specs.declared.reply.Refusal.{Refusal}
use Rattle.statements.specs.declared.reply.Refusal.TheVariants as refusal
use Rattle.statements.specs.declared.statement.Kind.TheVariants as kind
use Rattle.statements.specs.declared.statement.Statement.{Statement}
use Rattle.statements.specs.declared.statement.Statement.TheVariants as item
use Rattle.statements.specs.declared.stopping.Stop.{Stop}
use Rattle.statements.specs.declared.stopping.Stop.TheVariants as stop
use Rattle.statements.specs.declared.status.Status.{Status}
use Rattle.statements.specs.declared.status.Status.TheVariants.{DiskFault, WriteFault, NoMemory, InputTooLong}
use Rattle.statements.specs.Gathering.{Settles, Acknowledges, IsCutShort}
use Rattle.statements.specs.NextStatement.{TakesStatements, NextsStatement}
use Rattle.statements.specs.Stopping.{Ends, unless_failed}
use Rattle.statements.specs.Status.{code_of}
use Rattle.statements.specs.Runs.{after, output, longest_input}
use Rattle.statements.specs.Inputs.{deck_statements}
use Rattle.statements.proofs.FrontLaws.{no_items}
use Rattle.statements.proofs.Walk.{Walk, Grows, IsOneAtMost, Walk-none, Walk-items, Walk-settles, Walk-written, Ran-causes, ran_failed, none_read}
use Rattle.statements.proofs.Stops as stops
use Rattle.statements.proofs.RunLaws.{ran_too_long}
use Rattle.racf_workers.specs.Deck.{Met, Turn, DeckState, new_deck, told_line, counted, is_failure, any_failure, turn_of, behind_command, behind_issuer, issuer_text, refused_line, step, text_at, deck_machine, IsRight, Course, Stands, Gives}
use Rattle.racf_workers.specs.Giving.{Giving, new_giving, Apart, turn_at, told_of, Commands, Leaves, refused_of, named_of, NamesIssuer, WorksNext, Keeps}
use Rattle.racf_workers.proofs.DeckLaws.{failure_ends, marked_ends, stays_marked}
use Rattle.racf_workers.proofs.FileWalk.{same_events}

abbrev pub state_at : Giving → Passing → List Event → List Turn → List Met → DeckState
state_at s pass seen turns schedule =
    record { issuing = s.issuing; issuer = s.issuer; has_refused = s.has_refused; has_failed = s.has_failed; pass = pass; seen = seen; turns = turns; schedule = schedule }

-- The commands so far met this, whatever those to come will meet; the caller had seen `before`, and has seen `seen`.
pub record DeckWalk (base : Position) (issuing : Issuing) (before seen : List Event) (first pass : Passing) (source : Option (List ℕ)) (reader : Reader) (slack : ℕ) (state : Giving) (sunk now : Option (List ℕ)) (gathered : List ℕ) : Type 0 where
  pub schedule : List Met
  pub turns : List Turn
  pub walk : (more : List Met) → Walk (deck_machine base issuing before first (schedule ++ more)) source reader slack (state_at state pass seen turns more) sunk now gathered
  pub course : Course base turns
  pub fails : state.has_failed ≡ any_failure turns
  pub failed : state.has_failed ≡ true → is_some (failed_of seen) ≡ true

pub begun : (base : Position) (issuing : Issuing) (seen : List Event) (pass : Passing) (reader : Reader) (state : Giving) (sunk : Option (List ℕ)) (gathered : List ℕ) → reader ≡ at_start reader.left reader.faults → state ≡ new_giving issuing → gathered ≡ []
    → DeckWalk base issuing seen seen pass pass reader.left reader 0 state sunk sunk gathered
begun base issuing seen pass reader state sunk gathered fresh new none =
    let at_new : DeckWalk base issuing seen seen pass pass reader.left (at_start reader.left reader.faults) 0 (new_giving issuing) sunk sunk [] =
    record {
      schedule = [];
      turns = [];
      walk = λ more. Walk-none (deck_machine base issuing seen pass more) reader.left sunk reader.faults;
      course = tt;
      fails = refl;
      failed = λ failed. absurd (cc);
    } in
    let at_reader = subst (λ (r : Reader). DeckWalk base issuing seen seen pass pass reader.left r 0 (new_giving issuing) sunk sunk []) (sym fresh) at_new in
    let at_state = subst (λ (s : Giving). DeckWalk base issuing seen seen pass pass reader.left reader 0 s sunk sunk []) (sym new) at_reader in
    subst (λ (bytes : List ℕ). DeckWalk base issuing seen seen pass pass reader.left reader 0 state sunk sunk bytes) (sym none) at_state

module _ (base : Position) (issuing : Issuing) (before seen : List Event) (first pass : Passing) (source : Option (List ℕ)) where
  pub settles : (reader : Reader) (slack : ℕ) (state : Giving) (sunk now then : Option (List ℕ)) (gathered rest : List ℕ) → DeckWalk base issuing before seen first pass source reader slack state sunk now gathered → Settles gathered rest now then
      → DeckWalk base issuing before seen first pass source reader slack state sunk then rest
  settles reader slack state sunk now then gathered rest w s =
      record {
        schedule = w.schedule;
        turns = w.turns;
        walk = λ more. Walk-settles (deck_machine base issuing before first (w.schedule ++ more)) source reader slack (state_at state pass seen w.turns more) sunk now then gathered rest (w.walk more) s;
        course = w.course;
        fails = w.fails;
        failed = w.failed;
      }

  -- all that is gathered was written
  pub written : (reader : Reader) (slack next : ℕ) (state : Giving) (sunk now then : Option (List ℕ)) (gathered rest : List ℕ) → DeckWalk base issuing before seen first pass source reader slack state sunk now gathered → rest ≡ [] → then ≡ append_known now gathered
      → DeckWalk base issuing before seen first pass source reader next state sunk then rest
  written reader slack next state sunk now then gathered rest w none wrote =
      record {
        schedule = w.schedule;
        turns = w.turns;
        walk = λ more. Walk-written (deck_machine base issuing before first (w.schedule ++ more)) source reader slack next (state_at state pass seen w.turns more) sunk now then gathered rest (w.walk more) none wrote;
        course = w.course;
        fails = w.fails;
        failed = w.failed;
      }

  course_more : (turns : List Turn) (turn : Turn) → Course base turns → IsRight base turn → Course base (turns ++ turn ∷ [])
  course_more [] turn c r = (r, tt)
  course_more (t ∷ turns) turn c r = (c.0, course_more turns turn c.1 r)

  any_more : (turns : List Turn) (turn : Turn) → any_failure (turns ++ turn ∷ []) ≡ (any_failure turns || is_failure turn.met.reply)
  any_more [] turn = or-false (is_failure turn.met.reply)
  any_more (t ∷ turns) turn =
      ap (λ (b : Bool). is_failure t.met.reply || b) (any_more turns turn) ∙ sym (or_assoc (is_failure t.met.reply) (any_failure turns) (is_failure turn.met.reply))

  failed_now : (s t : Giving) (turn : Turn) (front : List Event) → (s.has_failed ≡ true → is_some (failed_of seen) ≡ true) → Extends seen front → IsRight base turn → front ≡ turn.met.behind → t ≡ told_of turn.met.reply s
      → t.has_failed ≡ true → is_some (failed_of front) ≡ true
  failed_now s t turn front failed later right front_is state h =
      by s.has_failed (is_failure turn.met.reply) failed
      (λ e. ap (λ (e : List Event). is_some (failed_of e)) front_is ∙ failure_ends base turn.given turn.met.reply turn.met.before turn.met.behind turn.pass (counted turn.met.reply turn.pass) right.says e)
      (sym (ap (λ (x : Giving). x.has_failed) state) ∙ h)
    where
      by : (was is : Bool) → (was ≡ true → is_some (failed_of seen) ≡ true) → (is ≡ true → is_some (failed_of front) ≡ true) → (was || is) ≡ true → is_some (failed_of front) ≡ true
      by true is old new k = stays_marked seen front later (old refl)
      by false is old new k = new k

  -- a command was given
  commanded : (given : Statement) (text : List ℕ) (front : List Event) (back : Passing) (bytes : List ℕ) (old new : Reader) (next : ℕ) (s t : Giving) (sunk now : Option (List ℕ)) (gathered more : List ℕ)
      → ((d : DeckState) → step given d ≡ behind_command (turn_of text d) d) → ((d : DeckState) → text_at base given d ≡ told_line (turn_of text d).met.reply)
      → DeckWalk base issuing before seen first pass source old 0 s sunk now gathered → TakesStatements deck_statements (given ∷ []) bytes old new → Extends seen front → Commands base text seen front pass back s t gathered more → back.commands ≤ pass.commands + next
      → DeckWalk base issuing before front first back source new next t sunk now more
  commanded given text front back bytes old new next s t sunk now gathered more step_is text_is w takes later c few =
      let met = c.met in
      let turn = turn_at text s seen pass met in
      let turns = w.turns ++ turn ∷ [] in
      record {
        schedule = w.schedule ++ met ∷ [];
        turns = turns;
        walk =
            λ rest.
            let start = state_at s pass seen w.turns (met ∷ rest) in
            Walk-items (deck_machine base issuing before first ((w.schedule ++ met ∷ []) ++ rest)) (given ∷ []) bytes source old new next start (state_at t back front turns rest) sunk now gathered more
            (subst (λ (all : List Met). Walk (deck_machine base issuing before first all) source old 0 start sunk now gathered) (sym (append_assoc w.schedule (met ∷ []) rest)) (w.walk (met ∷ rest)))
            takes tt
            (ap (λ (x : Giving). state_at x back front turns rest) c.state
            ∙ ap (λ (p : Passing). state_at (told_of met.reply s) p front turns rest) c.back_is
            ∙ ap (λ (e : List Event). state_at (told_of met.reply s) (counted met.reply pass) e turns rest) c.front_is
            ∙ sym (step_is start))
            (c.text_is ∙ ap (λ bs. gathered ++ bs) (sym (append-nil (told_line met.reply))) ∙ ap (λ bs. gathered ++ (bs ++ [])) (sym (text_is start)))
            (omega (arith, few));
        course = course_more w.turns turn w.course c.right;
        fails = ap (λ (x : Giving). x.has_failed) c.state ∙ ap (λ (b : Bool). b || is_failure met.reply) w.fails ∙ sym (any_more w.turns turn);
        failed = failed_now s t turn front w.failed later c.right c.front_is c.state;
      }

  -- a line was worked that is no command, or skipped
  apart : (items : List Statement) (left : Giving) (text bytes : List ℕ) (front : List Event) (back : Passing) (old new : Reader) (next : ℕ) (s t : Giving) (sunk now : Option (List ℕ)) (gathered more : List ℕ)
      → ((all : List Met) (turns : List Turn) (rest : List Met) → state_at left pass seen turns rest ≡ after (deck_machine base issuing before first all) items (state_at s pass seen turns rest))
      → ((all : List Met) (turns : List Turn) (rest : List Met) → text ≡ output (deck_machine base issuing before first all) items (state_at s pass seen turns rest))
      → left.has_failed ≡ s.has_failed → IsOneAtMost items
      → DeckWalk base issuing before seen first pass source old 0 s sunk now gathered → TakesStatements deck_statements items bytes old new → Apart seen front pass back (Leaves left text t gathered more)
      → DeckWalk base issuing before front first back source new next t sunk now more
  apart items left text bytes front back old new next s t sunk now gathered more steps prints same one w takes a =
      let there : DeckWalk base issuing before seen first pass source new next left sunk now (gathered ++ text) =
      record {
        schedule = w.schedule;
        turns = w.turns;
        walk =
            λ rest.
            let all = w.schedule ++ rest in
            Walk-items (deck_machine base issuing before first all) items bytes source old new next (state_at s pass seen w.turns rest) (state_at left pass seen w.turns rest) sunk now gathered (gathered ++ text)
            (w.walk rest) takes one (steps all w.turns rest) (ap (λ bs. gathered ++ bs) (prints all w.turns rest)) (omega arith);
        course = w.course;
        fails = same ∙ w.fails;
        failed = λ h. w.failed (sym same ∙ h);
      } in
      subst (λ (e : List Event). DeckWalk base issuing before e first back source new next t sunk now more) (sym a.0)
      (subst (λ (p : Passing). DeckWalk base issuing before seen first p source new next t sunk now more) (sym a.1)
      (subst (λ (x : Giving). DeckWalk base issuing before seen first pass source new next x sunk now more) (sym a.2.state_is)
      (subst (λ (bs : List ℕ). DeckWalk base issuing before seen first pass source new next left sunk now bs) (sym a.2.text_is) there)))

  named : (line : List ℕ) (r : Result NamedIssuer Refusal) (bytes : List ℕ) (front : List Event) (back : Passing) (old new : Reader) (next : ℕ) (s t : Giving) (sunk now : Option (List ℕ)) (gathered more : List ℕ)
      → issuer_named s.issuing line ≡ r → DeckWalk base issuing before seen first pass source old 0 s sunk now gathered → TakesStatements deck_statements (item.Issuer line ∷ []) bytes old new → Apart seen front pass back (NamesIssuer base r seen s t gathered more)
      → DeckWalk base issuing before front first back source new next t sunk now more
  unfolding step text_at
  named line (Ok issuer) bytes front back old new next s t sunk now gathered more e w takes a =
      apart (item.Issuer line ∷ []) (named_of issuer s) [] bytes front back old new next s t sunk now gathered more
      (λ all turns rest. ap (λ (r : Result NamedIssuer Refusal). behind_issuer r (state_at s pass seen turns rest)) (sym e))
      (λ all turns rest. ap (λ (r : Result NamedIssuer Refusal). issuer_text base seen r ++ []) (sym e))
      refl tt w takes a
  named line (Err why) bytes front back old new next s t sunk now gathered more e w takes a =
      apart (item.Issuer line ∷ []) (refused_of s) (refused_line base seen why) bytes front back old new next s t sunk now gathered more
      (λ all turns rest. ap (λ (r : Result NamedIssuer Refusal). behind_issuer r (state_at s pass seen turns rest)) (sym e))
      (λ all turns rest. sym (append-nil (refused_line base seen why)) ∙ ap (λ (r : Result NamedIssuer Refusal). issuer_text base seen r ++ []) (sym e))
      refl tt w takes a

  -- A statement was worked, or a line was skipped.
  pub goes_on : (given : Option Statement) (bytes : List ℕ) (front : List Event) (back : Passing) (old new : Reader) (next : ℕ) (s t : Giving) (sunk now : Option (List ℕ)) (gathered more : List ℕ)
      → DeckWalk base issuing before seen first pass source old 0 s sunk now gathered → TakesStatements deck_statements (option_to_list given) bytes old new → Extends seen front → WorksNext base given seen front pass back s t gathered more → back.commands ≤ pass.commands + next
      → DeckWalk base issuing before front first back source new next t sunk now more
  unfolding step text_at
  goes_on None bytes front back old new next s t sunk now gathered more w takes later a few =
      apart [] s [] bytes front back old new next s t sunk now gathered more (λ all turns rest. refl) (λ all turns rest. refl) refl tt w takes a
  goes_on (Some (item.Command text)) bytes front back old new next s t sunk now gathered more w takes later a few =
      commanded (item.Command text) text front back bytes old new next s t sunk now gathered more (λ d. refl) (λ d. refl) w takes later a few
  goes_on (Some (item.Request text)) bytes front back old new next s t sunk now gathered more w takes later a few =
      commanded (item.Request text) text front back bytes old new next s t sunk now gathered more (λ d. refl) (λ d. refl) w takes later a few
  goes_on (Some (item.Issuer text)) bytes front back old new next s t sunk now gathered more w takes later a few =
      named text (issuer_named s.issuing text) bytes front back old new next s t sunk now gathered more refl w takes a
  goes_on (Some item.LineTooLong) bytes front back old new next s t sunk now gathered more w takes later a few =
      apart (item.LineTooLong ∷ []) (refused_of s) (refused_line base seen refusal.LineTooLong) bytes front back old new next s t sunk now gathered more
      (λ all turns rest. refl) (λ all turns rest. sym (append-nil (refused_line base seen refusal.LineTooLong))) refl tt w takes a

  -- it accepts one command at most
  counted_few : (told : Reply) (p : Passing) → (counted told p).commands ≤ p.commands + 1
  counted_few (reply.Accepted number) p = omega arith
  counted_few (reply.Refused number why) p = omega arith
  counted_few (reply.Halted number) p = omega arith
  counted_few (reply.DiskFault number) p = omega arith
  counted_few reply.NoMemory p = omega arith

  kept_few : (back : Passing) → back ≡ pass → back.commands ≤ pass.commands + 1
  kept_few back same = subst (λ (p : Passing). p.commands ≤ pass.commands + 1) (sym same) (omega arith)

  met_few : (back : Passing) (told : Reply) → back ≡ counted told pass → back.commands ≤ pass.commands + 1
  met_few back told is = subst (λ (p : Passing). p.commands ≤ pass.commands + 1) (sym is) (counted_few told pass)

  pub works_few : (given : Option Statement) (front : List Event) (back : Passing) (s t : Giving) (gathered more : List ℕ) → WorksNext base given seen front pass back s t gathered more → back.commands ≤ pass.commands + 1
  works_few None front back s t gathered more a = kept_few back a.1
  works_few (Some (item.Command text)) front back s t gathered more a = met_few back a.met.reply a.back_is
  works_few (Some (item.Request text)) front back s t gathered more a = met_few back a.met.reply a.back_is
  works_few (Some (item.Issuer text)) front back s t gathered more a = kept_few back a.1
  works_few (Some item.LineTooLong) front back s t gathered more a = kept_few back a.1

-- What is gathered behind a statement waits on only where it accepted none.
pub acknowledged : (base : Position) (issuing : Issuing) (before seen front : List Event) (first pass back : Passing) (source : Option (List ℕ)) (given : Option Statement) (bytes : List ℕ) (old new : Reader) (s t : Giving) (sunk now then : Option (List ℕ)) (gathered more rest : List ℕ) (accepted : Bool)
    → DeckWalk base issuing before seen first pass source old 0 s sunk now gathered → TakesStatements deck_statements (option_to_list given) bytes old new → Extends seen front → WorksNext base given seen front pass back s t gathered more
    → (accepted ≡ false → back.commands ≡ pass.commands) → Acknowledges (accepted ≡ false) more rest now then
    → DeckWalk base issuing before front first back source new 0 t sunk then rest
acknowledged base issuing before seen front first pass back source given bytes old new s t sunk now then gathered more rest accepted w takes later works none (inl kept) =
    let same = none kept.0 in
    settles base issuing before front first back source new 0 t sunk now then more rest
    (goes_on base issuing before seen first pass source given bytes front back old new 0 s t sunk now gathered more w takes later works (omega (arith, same))) (inl (kept.1, kept.2))
acknowledged base issuing before seen front first pass back source given bytes old new s t sunk now then gathered more rest accepted w takes later works none (inr wrote) =
    written base issuing before front first back source new 1 0 t sunk now then more rest
    (goes_on base issuing before seen first pass source given bytes front back old new 1 s t sunk now gathered more w takes later works (works_few base issuing before seen first pass source given front back s t gathered more works)) wrote.0 wrote.1

-- ---- the commands that were accepted, and the disks that failed, along a deck
counted_grows : (told : Reply) (p : Passing) → p.commands ≤ (counted told p).commands
counted_grows (reply.Accepted number) p = omega arith
counted_grows (reply.Refused number why) p = omega arith
counted_grows (reply.Halted number) p = omega arith
counted_grows (reply.DiskFault number) p = omega arith
counted_grows reply.NoMemory p = omega arith

issuer_grows : (r : Result NamedIssuer Refusal) (d : DeckState) → d.pass.commands ≤ (behind_issuer r d).pass.commands
issuer_grows (Ok issuer) d = omega arith
issuer_grows (Err why) d = omega arith

deck_grows : (base : Position) (issuing : Issuing) (before : List Event) (first : Passing) (schedule : List Met) → Grows (deck_machine base issuing before first schedule)
unfolding step
deck_grows base issuing before first schedule (item.Command text) d = counted_grows (turn_of text d).met.reply d.pass
deck_grows base issuing before first schedule (item.Request text) d = counted_grows (turn_of text d).met.reply d.pass
deck_grows base issuing before first schedule (item.Issuer text) d = issuer_grows (issuer_named d.issuing text) d
deck_grows base issuing before first schedule item.LineTooLong d = omega arith

-- A pass counts one more fault only where a disk is told to have failed.
abbrev Faultless : DeckState → DeckState → Type 0
Faultless d e = (e.pass.faults ≡ d.pass.faults) ⊎ (e.has_failed ≡ true)

met_faultless : (told : Reply) (p : Passing) (failed : Bool) → ((counted told p).faults ≡ p.faults) ⊎ ((failed || is_failure told) ≡ true)
met_faultless (reply.Accepted number) p failed = inl refl
met_faultless (reply.Refused number why) p failed = inl refl
met_faultless (reply.Halted number) p failed = inl refl
met_faultless (reply.DiskFault number) p failed = inr (or_right failed true refl)
met_faultless reply.NoMemory p failed = inl refl

issuer_faultless : (r : Result NamedIssuer Refusal) (d : DeckState) → (behind_issuer r d).pass.faults ≡ d.pass.faults
issuer_faultless (Ok issuer) d = refl
issuer_faultless (Err why) d = refl

step_faultless : (i : Statement) (d : DeckState) → Faultless d (step i d)
unfolding step
step_faultless (item.Command text) d = met_faultless (turn_of text d).met.reply d.pass d.has_failed
step_faultless (item.Request text) d = met_faultless (turn_of text d).met.reply d.pass d.has_failed
step_faultless (item.Issuer text) d = inl (issuer_faultless (issuer_named d.issuing text) d)
step_faultless item.LineTooLong d = inl refl

issuer_failed : (r : Result NamedIssuer Refusal) (d : DeckState) → (behind_issuer r d).has_failed ≡ d.has_failed
issuer_failed (Ok issuer) d = refl
issuer_failed (Err why) d = refl

step_failed : (i : Statement) (d : DeckState) → d.has_failed ≡ true → (step i d).has_failed ≡ true
unfolding step
step_failed (item.Command text) d h = ap (λ (b : Bool). b || is_failure (turn_of text d).met.reply) h
step_failed (item.Request text) d h = ap (λ (b : Bool). b || is_failure (turn_of text d).met.reply) h
step_failed (item.Issuer text) d h = issuer_failed (issuer_named d.issuing text) d ∙ h
step_failed item.LineTooLong d h = h

module _ (base : Position) (issuing : Issuing) (before : List Event) (first : Passing) (schedule : List Met) where
  failed_still : (items : List Statement) (d : DeckState) → d.has_failed ≡ true → (after (deck_machine base issuing before first schedule) items d).has_failed ≡ true
  failed_still [] d h = h
  failed_still (i ∷ items) d h = failed_still items (step i d) (step_failed i d h)

  faultless : (items : List Statement) (d : DeckState) → Faultless d (after (deck_machine base issuing before first schedule) items d)
  faultless [] d = inl refl
  faultless (i ∷ items) d = by (faultless items (step i d)) (step_faultless i d)
    where
      by : Faultless (step i d) (after (deck_machine base issuing before first schedule) items (step i d)) → Faultless d (step i d) → Faultless d (after (deck_machine base issuing before first schedule) items (step i d))
      by (inr failed) step_is = inr failed
      by (inl same) (inl kept) = inl (same ∙ kept)
      by (inl same) (inr failed) = inr (failed_still items (step i d) failed)

-- So a deck whose pass counted a fault ends with the status of a failed disk, or a greater one.
pub halted_status : (base : Position) (issuing : Issuing) (seen last : List Event) (pass back : Passing) (R W : Type 0) (status : Status) (source left sunk now : Option (List ℕ)) → Gives base issuing seen last pass back R W status source left sunk now
    → pass.faults < back.faults → 20 ≤ code_of status
halted_status base issuing seen last pass back R W status source left sunk now g more =
    let m = deck_machine base issuing seen pass g.schedule in
    let behind = after m g.ran.worked m.start in
    let counts : behind.pass.faults ≡ back.faults = ap (λ (p : Passing). p.faults) g.ran.stands.counts in
    ran_failed m (Stands base status last back) R W status source left sunk now g.ran (by (faultless base issuing seen pass g.schedule g.ran.worked m.start) counts)
  where
    by : Faultless (new_deck issuing seen pass g.schedule) (after (deck_machine base issuing seen pass g.schedule) g.ran.worked (new_deck issuing seen pass g.schedule))
        → (after (deck_machine base issuing seen pass g.schedule) g.ran.worked (new_deck issuing seen pass g.schedule)).pass.faults ≡ back.faults
        → (after (deck_machine base issuing seen pass g.schedule) g.ran.worked (new_deck issuing seen pass g.schedule)).has_failed ≡ true
    by (inl same) counts = absurd (omega (arith, same, counts, more))
    by (inr failed) counts = failed

-- ---- the stops
exact_by : (status : Status) (seen last : List Event) (failed : Bool) → (failed ≡ true → is_some (failed_of seen) ≡ true) → Extends seen last → status ≢ WriteFault → status ≡ unless_failed failed WriteFault → seen ≡ last
exact_by status seen last false marked later not_write is = absurd (not_write is)
exact_by status seen last true marked later not_write is = sym (later.whole (marked_ends seen (marked refl)))

-- R and W are why a read or a write may fail.
module _ (base : Position) (issuing : Issuing) (before seen : List Event) (first pass : Passing) (R W : Type 0) (source : Option (List ℕ)) (last : List Event) (old new : Reader) (slack : ℕ) (state : Giving) (sunk now then : Option (List ℕ)) (gathered : List ℕ) (w : DeckWalk base issuing before seen first pass source old slack state sunk now gathered) (at_most : slack ≤ 1) where
  -- no statement came
  pub stopped : last ≡ seen → (why : Stop) (status : Status) → NextsStatement kind.Deck (Err why) old new → new.passed ≤ 2 ^ 28 → (Rose old.faults new.faults → R) → Ends W why state.has_failed state.has_refused status gathered now then
      → Gives base issuing before last first pass R W status source new.left sunk then
  stopped same why status h limit read ends =
      let later : Extends seen last = subst (λ (e : List Event). Extends seen e) (sym same) (same_events seen) in
      record {
        schedule = w.schedule ++ [];
        ran =
            stops.stopped (deck_machine base issuing before first (w.schedule ++ [])) (Stands base status last pass) R W source old new slack (state_at state pass seen w.turns []) sunk now then gathered (w.walk [])
            (record { course = w.course; counts = refl; fails = w.fails; failed = w.failed; later = later; exact = λ _ _. sym same })
            (deck_grows base issuing before first (w.schedule ++ [])) at_most (no_items kind.Deck) why status h limit read ends;
      }

  -- what is gathered couldn't be written
  pub cut : last ≡ seen → W → (status : Status) (told : Bool) → IsCutShort gathered now then → status ≡ unless_failed told WriteFault → told ≡ state.has_failed → Gives base issuing before last first pass R W status source new.left sunk then
  cut same why status told short is by =
      let later : Extends seen last = subst (λ (e : List Event). Extends seen e) (sym same) (same_events seen) in
      record {
        schedule = w.schedule ++ [];
        ran =
            stops.cut (deck_machine base issuing before first (w.schedule ++ [])) (Stands base status last pass) R W source old new slack (state_at state pass seen w.turns []) sunk now then gathered (w.walk [])
            (record { course = w.course; counts = refl; fails = w.fails; failed = w.failed; later = later; exact = λ _ _. sym same })
            (deck_grows base issuing before first (w.schedule ++ [])) at_most why status short (is ∙ ap (λ (failed : Bool). unless_failed failed WriteFault) by);
      }

  -- memory ran out before the statement was worked
  pub unworked_by : Extends seen last → (status : Status) → Ends W stop.NoMemory state.has_failed state.has_refused status gathered now then → Gives base issuing before last first pass R W status source new.left sunk then
  unworked_by later status ends =
      record {
        schedule = w.schedule ++ [];
        ran =
            stops.unanswered (deck_machine base issuing before first (w.schedule ++ [])) (Stands base status last pass) R W source old new slack (state_at state pass seen w.turns []) sunk now then gathered (w.walk [])
            (record { course = w.course; counts = refl; fails = w.fails; failed = w.failed; later = later; exact = by ends })
            (deck_grows base issuing before first (w.schedule ++ [])) at_most status ends;
      }
    where
      by : Ends W stop.NoMemory state.has_failed state.has_refused status gathered now then → status ≢ NoMemory → status ≢ WriteFault → seen ≡ last
      by (inl h) not_memory not_write = absurd (not_memory h.0)
      by (inr h) not_memory not_write = exact_by status seen last state.has_failed w.failed later not_write h.0

-- likewise where it is known that nothing has changed
pub unworked : (base : Position) (issuing : Issuing) (before seen last : List Event) (first pass back : Passing) (R W : Type 0) (source : Option (List ℕ)) (old new : Reader) (s t : Giving) (sunk now then : Option (List ℕ)) (gathered more : List ℕ) (status : Status)
    → DeckWalk base issuing before seen first pass source old 0 s sunk now gathered → Keeps pass back s t gathered more → Extends seen last → Ends W stop.NoMemory t.has_failed t.has_refused status more now then
    → Gives base issuing before last first back R W status source new.left sunk then
unworked base issuing before seen last first pass back R W source old new s t sunk now then gathered more status w kept later ends =
    let here : DeckWalk base issuing before seen first back source old 0 t sunk now more =
    subst (λ (p : Passing). DeckWalk base issuing before seen first p source old 0 t sunk now more) (sym kept.back_is)
    (subst (λ (x : Giving). DeckWalk base issuing before seen first pass source old 0 x sunk now more) (sym kept.state_is)
    (subst (λ (bs : List ℕ). DeckWalk base issuing before seen first pass source old 0 s sunk now bs) (sym kept.text_is) w)) in
    unworked_by base issuing before seen first back R W source last old new 0 t sunk now then more here (omega arith) later status ends

-- nothing was read
pub none_given : (base : Position) (issuing : Issuing) (seen : List Event) (pass : Passing) (R W : Type 0) (source left sunk : Option (List ℕ)) → Gives base issuing seen seen pass pass R W NoMemory source left sunk sunk
none_given base issuing seen pass R W source left sunk =
    record {
      schedule = [];
      ran =
          none_read (deck_machine base issuing seen pass []) (Stands base NoMemory seen pass) R W source left sunk
          (record { course = tt; counts = refl; fails = refl; failed = λ h. absurd (cc); later = same_events seen; exact = λ _ _. refl });
    }

-- a line doesn't end within the longest input
pub too_long : (base : Position) (issuing : Issuing) (before after : List Event) (first back : Passing) (R W : Type 0) (status : Status) (source known left sunk now : Option (List ℕ)) → Gives base issuing before after first back R W status source left sunk now → source ≡ known → status ≡ InputTooLong
    → IfSome known (λ bytes. longest_input < length bytes)
too_long base issuing before after first back R W status source known left sunk now a same is =
    let P : Option (List ℕ) → Type 0 = λ given. IfSome given (λ bytes. longest_input < length bytes) in
    let long : P source = ran_too_long (deck_machine base issuing before first a.schedule) (Stands base status after back) R W status source left sunk now a.ran is in
    subst P same long

-- a write that failed is told as a disk's fault where a disk had failed
pub told_failed : (status : Status) (told failed : Bool) → status ≡ unless_failed told WriteFault → told ≡ failed → status ≡ DiskFault → failed ≡ true
told_failed status true failed is by h = sym by
told_failed status false failed is by h = absurd (cc (is, h))

-- a run of the same deck, by weaker causes
pub gives-causes : (base : Position) (issuing : Issuing) (before after : List Event) (first back : Passing) (R R2 W W2 : Type 0) (status : Status) (source left sunk now : Option (List ℕ)) → (R → R2) → (W → W2)
    → Gives base issuing before after first back R W status source left sunk now → Gives base issuing before after first back R2 W2 status source left sunk now
gives-causes base issuing before after first back R R2 W W2 status source left sunk now r w g =
    record { schedule = g.schedule; ran = Ran-causes (deck_machine base issuing before first g.schedule) (Stands base status after back) R R2 W W2 status source left sunk now r w g.ran }
