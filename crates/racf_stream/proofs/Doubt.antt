-- Behind a disk that failed: what every crash leaves, and which command is in doubt.
use Rattle.std.proofs.Common.{◌≡◌, ℕ, Bool, true, false, cond, List, [], ◌∷◌, ◌++◌, None, Some, Ok, inl, inr, refl, sym, ◌∙◌, ap, subst}
use Rattle.std.specs.Prelude.{Option, ◌⊎◌}
use Rattle.std.specs.List.{AllByRecursion}
use Rattle.std.proofs.lemmas.Bool.{eq-eqb}
use Rattle.journal_records.specs.declared.record.CommandRecord.{CommandRecord}
use Rattle.racf_outside.specs.Crashes.{moments, Leaves, Stays, StaysIn}
use Rattle.racf_outside.specs.Disk.{History, Now}
use Rattle.racf_outside.specs.Moments.{Moment}
use Rattle.racf_outside.specs.Reader.{Reader}
use Rattle.racf_outside.proofs.Runs.{same_history}
use Rattle.racf_checkpoint.specs.Stored.{StoreOn}
use Rattle.desk_rules.specs.Durable.{SameIdle, IdleDisk, idle_of, BesideIdle, StaysEither}
use Rattle.desk_rules.specs.Position.{Position, position_behind}
use Rattle.desk_rules.specs.Recovery.{StandsForEither}
use Rattle.desk_rules.proofs.IdleLaws.{same_idle-told}
use Rattle.statements.specs.declared.issuer.Issuing.{Issuing}
use Rattle.statements.specs.declared.reply.Reply.TheVariants.{DiskFault}
use Rattle.statements.specs.declared.statement.Statement.{Statement}
use Rattle.statements.specs.declared.statement.Statement.TheVariants.{Command}
use Rattle.racf_stream.specs.Durable.{StreamOn, fault_in, Moves, Fails, CommandInDoubt, LeavesEither, LeavesInDoubt}
use Rattle.statements.specs.NextStatement.{TakesStatements}
use Rattle.racf_stream.specs.Processing.{Works}
use Rattle.statements.specs.Replies.{reply_line}
use Rattle.statements.specs.Runs.{BeginsWith}
use Rattle.racf_stream.specs.Script.{stream, fault_at}
use Rattle.statements.specs.Inputs.{statements}
use Rattle.racf_stream.specs.Stream.{State, Answer, number_of, fail, accept, outcome_of, answer, text}
use Rattle.racf_stream.proofs.Faults.{text_is, position_rests}
use Rattle.racf_stream.proofs.Settled.{command_runs}
use Rattle.racf_stream.proofs.StreamWalk.{StreamWalk}
use Rattle.statements.proofs.Walk.{Walk, given_items, first_items}

-- ---- the last moment of a call
heads : (a b : Moment) (earlier others : List Moment) → a ∷ earlier ≡ b ∷ others → a ≡ b
heads a b earlier others h = cc

stays_last : (P : List ℕ → Type 0) (from to : History) → Stays P from to → Leaves P to.now
stays_last P from to s = by s.since s.are s.each
  where
    by : (since : List Moment) → moments to ≡ since ++ moments from → AllByRecursion (Leaves P) since → Leaves P to.now
    by [] are each = subst (Leaves P) (sym (heads to.now from.now to.past from.past are)) s.first
    by (m ∷ since) are each = subst (Leaves P) (sym (heads to.now m to.past (since ++ moments from) are)) each.0

stays_in-last : (P : List ℕ → Type 0) (a b : Option History) → StaysIn P a b → Now b (Leaves P)
stays_in-last P a b s h is = by a refl
  where
    by : (o : Option History) → a ≡ o → Leaves P h.now
    by None none = let no : ◌≡◌ {A = Option History} None (Some h) = sym (s.untold none) ∙ is in cc
    by (Some old) some =
        let told = s.told old some in
        subst (λ (k : History). Leaves P k.now) (same_history told.0 h (sym told.1 ∙ is)) (stays_last P old told.0 told.2)

leaves_either : {D : Type 0} (tells : D → Option History) (s t : StoreOn D) (position next : Position) → SameIdle s t → StaysEither tells s t position next → LeavesEither tells t position next
leaves_either tells s t position next idle stays =
    subst (λ (d : IdleDisk). Now (tells t.journal.disk) (Leaves (BesideIdle d (StandsForEither position next)))) (sym (same_idle-told tells s t idle))
    (stays_in-last (BesideIdle (idle_of tells s) (StandsForEither position next)) (tells s.journal.disk) (tells t.journal.disk) stays)

-- ---- the command that is in doubt
told_fault : (line : List ℕ) (s : State) (given : CommandRecord) → s.halted ≡ false → outcome_of line s ≡ Ok given → text (Some (number_of s)) (Command line) s ≡ reply_line (number_of s) DiskFault
told_fault line s given runs is =
    text_is (Some (number_of s)) (Command line) s
    ∙ ap (λ (a : Answer). a.text) (command_runs (Some (number_of s)) line s (Ok given) runs is ∙ ap (λ b. cond b (fail s) (accept given s)) (eq-eqb (number_of s) (number_of s) refl))

module _ {D : Type 0} (tells : D → Option History) (faults : D → ℕ) (issuing : Issuing) (base : Position) (source : Option (List ℕ)) (s t : StreamOn D) where
  doubted : (old new : Reader) (item : Statement) (bytes : List ℕ) (before now : Option (List ℕ)) (gathered : List ℕ)
      → Walk (stream None issuing base) source old 0 s.state before now gathered → TakesStatements statements (item ∷ []) bytes old new → s.state.halted ≡ false
      → SameIdle s.store t.store → Fails tells item s t → LeavesInDoubt tells issuing base source t.store t.state.position
  doubted old new item bytes before now gathered w takes runs idle f =
      let m = stream None issuing base in
      let next = position_behind s.state.position f.accepted in
      record {
        next = next;
        in_doubt =
            record {
              read = w.read ++ bytes;
              more = new.unread;
              given = given_items m (item ∷ []) bytes source old new 0 s.state before now gathered w takes;
              done = w.done;
              line = f.line;
              begins =
                  subst (λ (i : Statement). BeginsWith statements (w.read ++ bytes) new.unread (w.done ++ i ∷ [])) f.is_command
                  (first_items m (item ∷ []) bytes source old new 0 s.state before now gathered w takes);
              before = s.state;
              before_is = w.state;
              position_is = f.stays;
              accepted = f.accepted;
              outcome = f.outcome;
              told = told_fault f.line s.state f.accepted runs f.outcome;
              next_is = ap (λ (p : Position). position_behind p f.accepted) (sym f.stays);
            };
        leaves =
            subst (λ (p : Position). LeavesEither tells t.store p next) (sym f.stays) (leaves_either tells s.store t.store s.state.position next idle f.moments);
      }

  -- A statement behind which a disk has failed: by this one, or before it, and then nothing has changed there.
  pub doubt_stays : (old new : Reader) (item : Statement) (bytes : List ℕ) (before now : Option (List ℕ)) (gathered more : List ℕ)
      → StreamWalk issuing base source old 0 s.state before now gathered → TakesStatements statements (item ∷ []) bytes old new → Works issuing base (Some item) s t gathered more
      → Moves tells faults item s t → (s.state.halted ≡ false → t.state.halted ≡ true → Fails tells item s t)
      → (s.state.halted ≡ true → LeavesInDoubt tells issuing base source s.store s.state.position) → t.state.halted ≡ true → LeavesInDoubt tells issuing base source t.store t.state.position
  doubt_stays old new item bytes before now gathered more w takes works moves fails doubt halted = by s.state.halted refl
    where
      by : (b : Bool) → s.state.halted ≡ b → LeavesInDoubt tells issuing base source t.store t.state.position
      by false was =
          doubted old new item bytes before now gathered
          (subst (λ fault. Walk (stream fault issuing base) source old 0 s.state before now gathered) (ap (λ h. fault_at h (number_of s.state)) was) w) takes was moves.idle (fails was halted)
      by true was = still moves.moments
        where
          position : s.state.position ≡ t.state.position
          position = sym (ap (λ (x : State). x.position) works.state ∙ position_rests (fault_in t) item s.state was)

          still : (t.store ≡ s.store) ⊎ ((s.state.halted ≡ false) × StaysEither tells s.store t.store s.state.position (answer None item s.state).state.position) → LeavesInDoubt tells issuing base source t.store t.state.position
          still (inl same) =
              subst (λ (p : Position). LeavesInDoubt tells issuing base source t.store p) position
              (subst (λ (o : StoreOn D). LeavesInDoubt tells issuing base source o s.state.position) (sym same) (doubt was))
          still (inr moved) = let no : true ≡ false = sym was ∙ moved.0 in cc
