-- Behind each of a deck's commands: its pass has counted what was made, which stands among the deck's entries.
use Rattle.std.proofs.Common.{◌≡◌, ◌≢◌, ℕ, ◌+◌, List, [], ◌∷◌, ◌++◌, length, refl, sym, ◌∙◌, ap, subst, arith, append-nil, append_assoc, length-append}
use Rattle.std.specs.Prelude.{Result, Ok, Err, Some}
use Rattle.desk_rules.specs.Position.{Position}
use Rattle.desk_rules.specs.declared.answers.Reply.{Reply}
use Rattle.desk_rules.specs.declared.answers.Reply.TheVariants as reply
use Rattle.command_history.specs.declared.events.Accepted.{Accepted}
use Rattle.command_history.specs.declared.events.Event.{Event}
use Rattle.command_history.specs.declared.events.Event.TheVariants.{Ended}
use Rattle.command_history.specs.Events.{entries_of, Extends}
use Rattle.racroute.specs.Core.{Passing}
use Rattle.racroute.specs.Replies.{Given, Says}
use Rattle.request_files.specs.declared.issuer_line.NamedIssuer.{NamedIssuer}
use Rattle.statements.specs.declared.reply.Refusal.{Refusal}
use Rattle.statements.specs.declared.statement.Statement.{Statement}
use Rattle.statements.specs.declared.statement.Statement.TheVariants as item
use Rattle.statements.specs.IssuerLines.{issuer_named}
use Rattle.statements.specs.Runs.{after}
use Rattle.statements.specs.declared.issuer.Issuing.{Issuing}
use Rattle.racf_workers.specs.Deck.{Met, Turn, DeckState, counted, new_deck, turn_of, behind_command, behind_issuer, step, deck_machine, IsRight, Course}
use Rattle.racf_threads.specs.Outputs.{entries_by, last_of, made_by, made_in, fault_of, faults_in, new_pass, AreDoubted}
use Rattle.racf_threads.proofs.Doubts.{says_extends, told_doubted, doubted_later, doubted_push}
use Rattle.racf_threads.proofs.Entries.{IsWithin, within_behind, within_later, within_added, last_added}

-- ---- one command

-- So much of the history was seen; what was made stands among this deck's entries there, and the pass has counted it
-- and so many faults.
pub record Kept (deck : ℕ) (seen : List Event) (pass : Passing) (made : List Accepted) (faults : ℕ) : Type 0 where
  pub number : pass.deck ≡ deck
  pub commands : pass.commands ≡ length made
  pub failed : pass.faults ≡ faults
  pub within : IsWithin made (entries_by deck (entries_of seen))

begun : (deck : ℕ) → Kept deck [] (new_pass deck) [] 0
begun deck =
    record { number = refl; commands = refl; failed = refl; within = record { fits = omega arith; whole = λ le. refl } }

module _ (base : Position) (given : Given) (deck : ℕ) (before behind : List Event) (pass : Passing) (made : List Accepted) (faults : ℕ) where
  -- nothing was made
  kept_same : behind ≡ before → Kept deck before pass made faults → Kept deck behind pass (made ++ []) (faults + 0)
  kept_same same k =
      let at : Kept deck behind pass made faults = subst (λ (l : List Event). Kept deck l pass made faults) (sym same) k in
      let none = append-nil made in
      record {
        number = at.number;
        commands = at.commands ∙ sym (ap (λ (l : List Accepted). length l) none);
        failed = omega arith;
        within = subst (λ (l : List Accepted). IsWithin l (entries_by deck (entries_of behind))) (sym none) at.within;
      }

  -- what a command was told keeps it
  kept_told : (told : Reply) → told ≢ reply.NoMemory → Says base given told before behind pass (counted told pass) → Kept deck before pass made faults
      → Kept deck behind (counted told pass) (made ++ made_by told behind) (faults + fault_of told)
  kept_told (reply.Accepted number) some says k =
      let one : last_of (entries_of behind) ≡ says.entry ∷ [] =
      ap (λ (l : List Event). last_of (entries_of l)) says.added ∙ last_added before says.entry in
      let own : IsWithin (made ++ says.entry ∷ []) (entries_by deck (entries_of behind)) =
      subst (λ (l : List Event). IsWithin (made ++ says.entry ∷ []) (entries_by deck (entries_of l))) (sym says.added)
      (within_added deck made before says.entry (says.entry_is.deck_is ∙ k.number) k.within) in
      let more = length-append made (says.entry ∷ []) in
      record {
        number = k.number;
        commands = subst (λ (l : List Accepted). pass.commands + 1 ≡ length (made ++ l)) (sym one) (omega arith);
        failed = omega arith;
        within = subst (λ (l : List Accepted). IsWithin (made ++ l) (entries_by deck (entries_of behind))) (sym one) own;
      }
  kept_told (reply.Refused number why) some says k = kept_same says.same k
  kept_told (reply.Halted number) some says k = kept_same says.same k
  kept_told (reply.DiskFault number) some says k =
      let own : IsWithin made (entries_by deck (entries_of behind)) =
      subst (λ (l : List Event). IsWithin made (entries_by deck (entries_of l))) (sym says.ended) (within_behind deck made before (Ended (Some says.entry) ∷ []) k.within) in
      let none = append-nil made in
      record {
        number = k.number;
        commands = k.commands ∙ sym (ap (λ (l : List Accepted). length l) none);
        failed = omega arith;
        within = subst (λ (l : List Accepted). IsWithin l (entries_by deck (entries_of behind))) (sym none) own;
      }
  kept_told reply.NoMemory some says k = absurd (some refl)

kept_later : (deck : ℕ) (seen later : List Event) (pass : Passing) (made : List Accepted) (faults : ℕ) → Extends seen later → Kept deck seen pass made faults → Kept deck later pass made faults
kept_later deck seen later pass made faults more k =
    record {
      number = k.number;
      commands = k.commands;
      failed = k.failed;
      within = within_later deck made seen later k.within more;
    }

-- ---- all commands

made_push : (turns : List Turn) (turn : Turn) → made_in (turns ++ turn ∷ []) ≡ made_in turns ++ made_by turn.met.reply turn.met.behind
made_push [] turn = append-nil (made_by turn.met.reply turn.met.behind)
made_push (first ∷ turns) turn =
    let made = made_by first.met.reply first.met.behind in
    ap (λ (l : List Accepted). made ++ l) (made_push turns turn)
    ∙ sym (append_assoc made (made_in turns) (made_by turn.met.reply turn.met.behind))

faults_push : (turns : List Turn) (turn : Turn) → faults_in (turns ++ turn ∷ []) ≡ faults_in turns + fault_of turn.met.reply
faults_push [] turn = omega arith
faults_push (first ∷ turns) turn = let rest = faults_push turns turn in omega arith

course_push : (base : Position) (turns : List Turn) (turn : Turn) → Course base (turns ++ turn ∷ []) → Course base turns × IsRight base turn
course_push base [] turn c = (tt, c.0)
course_push base (first ∷ turns) turn c = let rest = course_push base turns turn c.1 in ((c.0, rest.0), rest.1)

-- what stands between two lines
abbrev pub KeptAt : (deck : ℕ) → DeckState → Type 0
KeptAt deck s = Kept deck s.seen s.pass (made_in s.turns) (faults_in s.turns) × AreDoubted deck s.seen s.turns

module _ (base : Position) (issuing : Issuing) (deck : ℕ) where
  command_keeps : (text : List ℕ) (s : DeckState) → (Course base s.turns → KeptAt deck s) → Course base (s.turns ++ turn_of text s ∷ []) → KeptAt deck (behind_command (turn_of text s) s)
  command_keeps text s kept course =
      let turn = turn_of text s in
      let parts = course_push base s.turns turn course in
      let before = kept_later deck s.seen turn.met.before s.pass (made_in s.turns) (faults_in s.turns) parts.1.later (kept parts.0).0 in
      let told = kept_told base turn.given deck turn.met.before turn.met.behind s.pass (made_in s.turns) (faults_in s.turns) turn.met.reply parts.1.told parts.1.says before in
      let pass = counted turn.met.reply s.pass in
      let doubts = doubted_later deck s.seen turn.met.before parts.1.later s.turns (kept parts.0).1 in
      let goes_on = says_extends base turn.given turn.met.reply turn.met.before turn.met.behind s.pass pass parts.1.says in (
        subst (λ (l : List Accepted). Kept deck turn.met.behind pass l (faults_in (s.turns ++ turn ∷ []))) (sym (made_push s.turns turn))
            (subst (λ (n : ℕ). Kept deck turn.met.behind pass (made_in s.turns ++ made_by turn.met.reply turn.met.behind) n) (sym (faults_push s.turns turn)) told),
        doubted_push deck turn.met.behind s.turns turn (doubted_later deck turn.met.before turn.met.behind goes_on s.turns doubts)
            (told_doubted deck base turn.given turn.met.reply turn.met.before turn.met.behind s.pass pass (kept parts.0).0.number parts.1.says),
      )

  issuer_keeps : (named : Result NamedIssuer Refusal) (s : DeckState) → (Course base s.turns → KeptAt deck s) → Course base (behind_issuer named s).turns → KeptAt deck (behind_issuer named s)
  issuer_keeps (Ok issuer) s kept course = kept course
  issuer_keeps (Err why) s kept course = kept course

  step_keeps : (statement : Statement) (s : DeckState) → (Course base s.turns → KeptAt deck s) → Course base (step statement s).turns → KeptAt deck (step statement s)
  unfolding step
  step_keeps (item.Command text) s kept course = command_keeps text s kept course
  step_keeps (item.Request text) s kept course = command_keeps text s kept course
  step_keeps (item.Issuer text) s kept course = issuer_keeps (issuer_named s.issuing text) s kept course
  step_keeps item.LineTooLong s kept course = kept course

  keeps_along : (schedule : List Met) (statements : List Statement) (s : DeckState) → (Course base s.turns → KeptAt deck s)
      → Course base (after (deck_machine base issuing [] (new_pass deck) schedule) statements s).turns → KeptAt deck (after (deck_machine base issuing [] (new_pass deck) schedule) statements s)
  keeps_along schedule [] s kept course = kept course
  keeps_along schedule (statement ∷ statements) s kept course =
      keeps_along schedule statements (step statement s) (step_keeps statement s kept) course

  -- A deck with a new pass, behind its lines.
  pub kept_behind : (schedule : List Met) (statements : List Statement)
      → Course base (after (deck_machine base issuing [] (new_pass deck) schedule) statements (new_deck issuing [] (new_pass deck) schedule)).turns
      → KeptAt deck (after (deck_machine base issuing [] (new_pass deck) schedule) statements (new_deck issuing [] (new_pass deck) schedule))
  kept_behind schedule statements course =
      keeps_along schedule statements (new_deck issuing [] (new_pass deck) schedule) (λ none. (begun deck, tt)) course
