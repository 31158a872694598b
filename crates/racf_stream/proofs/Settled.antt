-- What is printed for a command, by what the desk did with it.
use Rattle.std.proofs.Common.{◌≡◌, ℕ, ◌+◌, Bool, true, false, cond, List, ◌++◌, None, Some, Ok, Err, inl, inr, refl, sym, ◌∙◌, ap, subst}
use Rattle.std.specs.Prelude.{Option, Result, OnOk, OnErr, ◌⊎◌}
use Rattle.std.proofs.lemmas.Bool.{eq-eqb}
use Rattle.journal_records.specs.declared.record.CommandRecord.{CommandRecord}
use Rattle.racf_outside.specs.Disk.{History}
use Rattle.racf_checkpoint.specs.Stored.{StoreOn}
use Rattle.desk_rules.specs.declared.refusal.Refusal.{Refusal}
use Rattle.desk_rules.specs.Durable.{StaysEither}
use Rattle.desk_rules.specs.Made.{Made, DeskOn, made_at, made_of_outcome, installed}
use Rattle.desk_rules.specs.Outcome.{outcome}
use Rattle.desk_rules.specs.Position.{Position, position_behind}
use Rattle.request_files.specs.declared.acees.NamedAcee.{NamedAcee}
use Rattle.request_files.specs.declared.issuer_line.NamedIssuer.{NamedIssuer}
use Rattle.statements.specs.declared.issuer.Issuing.{Issuing}
use Rattle.statements.specs.declared.reply.Reply.TheVariants.{Accepted, DiskFault}
use Rattle.statements.specs.declared.statement.Statement.TheVariants.{Command}
use Rattle.racf_stream.specs.Durable.{stream_on, fault_in, DoesOn, Fails, Settles}
use Rattle.statements.specs.Replies.{reply_line}
use Rattle.racf_stream.specs.Stream.{State, Answer, accept, fail, halt, answer_outcome, outcome_of, command}

-- a command where no disk has failed
pub command_runs : (fault : Option ℕ) (text : List ℕ) (s : State) (o : Result CommandRecord Refusal) → s.halted ≡ false → outcome_of text s ≡ o → command fault text s ≡ answer_outcome fault o s
unfolding command
command_runs fault text s o running is =
    ap (λ b. cond b (halt s) (answer_outcome fault (outcome_of text s) s)) running ∙ ap (λ (x : Result CommandRecord Refusal). answer_outcome fault x s) is

module _ {D : Type 0} (issuing : Issuing) (issuer : NamedIssuer) (refused : Bool) (acees : List NamedAcee) (text : List ℕ) (desk : DeskOn D) (given : CommandRecord) (running : desk.halted ≡ false) (is : outcome desk.position issuer.id issuer.group text ≡ Ok given) (old : List ℕ) where
  -- it was committed and installed
  accepts : (store : StoreOn D) → DoesOn (command None text) (stream_on desk issuing issuer refused acees) (stream_on (record { position = position_behind desk.position given; store = store; halted = false; made = None; committed = false }) issuing issuer refused acees) old (old ++ reply_line (desk.position.image.generation + 1) Accepted)
  accepts store =
      let told = command_runs None text (stream_on desk issuing issuer refused acees).state (Ok given) running is in
      record {
        left = ap (λ b. record { position = position_behind desk.position given; issuing = issuing; issuer = issuer; has_refused = refused; acees = acees; halted = b }) (sym running) ∙ ap (λ (a : Answer). a.state) (sym told);
        wrote = ap (λ (a : Answer). old ++ a.text) (sym told);
      }

  -- a disk failed it
  fails : (store : StoreOn D) (made : Option Made) (committed : Bool) → DoesOn (command (Some desk.position.image.generation) text) (stream_on desk issuing issuer refused acees) (stream_on (record { position = desk.position; store = store; halted = true; made = made; committed = committed }) issuing issuer refused acees) old (old ++ reply_line desk.position.image.generation DiskFault)
  fails store made committed =
      let s : State = (stream_on desk issuing issuer refused acees).state in
      let told =
      command_runs (Some desk.position.image.generation) text s (Ok given) running is
      ∙ ap (λ b. cond b (fail s) (accept given s)) (eq-eqb desk.position.image.generation desk.position.image.generation refl) in
      record {
        left = ap (λ (a : Answer). a.state) (sym told);
        wrote = ap (λ (a : Answer). old ++ a.text) (sym told);
      }

  module _ (tells : D → Option History) (now judged : DeskOn D) (made : Made) (out : List ℕ) where
    settled : made_at desk.position.image given ≡ made → judged ≡ record desk { made = Some made } → Settles tells judged now made old out → DoesOn (command (fault_in (stream_on now issuing issuer refused acees)) text) (stream_on desk issuing issuer refused acees) (stream_on now issuing issuer refused acees) old out
    settled same judges s = by s.done
      where
        Does : DeskOn D → List ℕ → Type 0
        Does d bytes = DoesOn (command (fault_in (stream_on d issuing issuer refused acees)) text) (stream_on desk issuing issuer refused acees) (stream_on d issuing issuer refused acees) old bytes

        position_is : judged.position ≡ desk.position
        position_is = ap (λ (d : DeskOn D). d.position) judges

        by : ((now ≡ record { position = installed judged.position made; store = now.store; halted = false; made = None; committed = false }) × (out ≡ old ++ reply_line made.number Accepted))
            ⊎ ((now ≡ record judged { store = now.store; halted = true }) × (out ≡ old ++ reply_line judged.position.image.generation DiskFault)) → Does now out
        by (inl ok) =
            let position : installed judged.position made ≡ position_behind desk.position given =
            ap (λ (p : Position). installed p made) position_is ∙ ap (installed desk.position) (sym same) in
            let at : now ≡ record { position = position_behind desk.position given; store = now.store; halted = false; made = None; committed = false } =
            ok.0 ∙ ap (λ (p : Position). record { position = p; store = now.store; halted = false; made = None; committed = false }) position in
            let words : out ≡ old ++ reply_line (desk.position.image.generation + 1) Accepted = ok.1 ∙ ap (λ (m : Made). old ++ reply_line m.number Accepted) (sym same) in
            subst (Does now) (sym words) (subst (λ (d : DeskOn D). Does d (old ++ reply_line (desk.position.image.generation + 1) Accepted)) (sym at) (accepts now.store))
        by (inr failed) =
            let at : now ≡ record { position = desk.position; store = now.store; halted = true; made = judged.made; committed = judged.committed } =
            failed.0 ∙ ap (λ (p : Position). record { position = p; store = now.store; halted = true; made = judged.made; committed = judged.committed }) position_is in
            let words : out ≡ old ++ reply_line desk.position.image.generation DiskFault = failed.1 ∙ ap (λ (p : Position). old ++ reply_line p.image.generation DiskFault) position_is in
            subst (Does now) (sym words) (subst (λ (d : DeskOn D). Does d (old ++ reply_line desk.position.image.generation DiskFault)) (sym at) (fails now.store judged.made judged.committed))

same_made : (m n : Made) → ◌≡◌ {A = Result Made Refusal} (Ok m) (Ok n) → m ≡ n
same_made m n h = cc

-- So a command that was judged and settled was answered as the definition says.
pub settles_command : {T E D : Type 0} (r : Result T E) (tells : D → Option History) (issuing : Issuing) (issuer : NamedIssuer) (refused : Bool) (acees : List NamedAcee) (text : List ℕ) (desk judged now : DeskOn D) (made : Made) (old out : List ℕ)
    → desk.halted ≡ false → made_of_outcome desk.position.image (outcome desk.position issuer.id issuer.group text) ≡ Ok made → judged ≡ record desk { made = Some made }
    → OnOk r (Settles tells judged now made old out)
    → OnOk r (DoesOn (command (fault_in (stream_on now issuing issuer refused acees)) text) (stream_on desk issuing issuer refused acees) (stream_on now issuing issuer refused acees) old out)
settles_command (Err why) tells issuing issuer refused acees text desk judged now made old out running is judges ok = tt
settles_command {D = D} (Ok done) tells issuing issuer refused acees text desk judged now made old out running is judges ok = by (outcome desk.position issuer.id issuer.group text) refl is
  where
    by : (o : Result CommandRecord Refusal) → outcome desk.position issuer.id issuer.group text ≡ o → made_of_outcome desk.position.image o ≡ Ok made
        → DoesOn (command (fault_in (stream_on now issuing issuer refused acees)) text) (stream_on desk issuing issuer refused acees) (stream_on now issuing issuer refused acees) old out
    by (Ok given) found h = settled issuing issuer refused acees text desk given running found old tells now judged made out (same_made (made_at desk.position.image given) made h) judges ok
    by (Err why) found h = cc

-- And where a disk failed it, that was a command which is accepted there.
pub fails_command : {T E D : Type 0} (r : Result T E) (tells : D → Option History) (issuing : Issuing) (issuer : NamedIssuer) (refused : Bool) (acees : List NamedAcee) (text : List ℕ) (desk judged now : DeskOn D) (made : Made) (old out : List ℕ)
    → made_of_outcome desk.position.image (outcome desk.position issuer.id issuer.group text) ≡ Ok made → judged ≡ record desk { made = Some made }
    → OnOk r (Settles tells judged now made old out) → OnErr r (now ≡ judged) → desk.halted ≡ false → now.halted ≡ true
    → Fails tells (Command text) (stream_on desk issuing issuer refused acees) (stream_on now issuing issuer refused acees)
fails_command {D = D} (Err why) tells issuing issuer refused acees text desk judged now made old out is judges ok err running halted =
    let no : true ≡ false = sym halted ∙ ap (λ (d : DeskOn D). d.halted) err ∙ ap (λ (d : DeskOn D). d.halted) judges ∙ running in cc
fails_command {D = D} (Ok done) tells issuing issuer refused acees text desk judged now made old out is judges ok err running halted =
    by (outcome desk.position issuer.id issuer.group text) refl is
  where
    position_is : judged.position ≡ desk.position
    position_is = ap (λ (d : DeskOn D). d.position) judges

    stays : ((now ≡ record { position = installed judged.position made; store = now.store; halted = false; made = None; committed = false }) × (out ≡ old ++ reply_line made.number Accepted))
        ⊎ ((now ≡ record judged { store = now.store; halted = true }) × (out ≡ old ++ reply_line judged.position.image.generation DiskFault)) → now.position ≡ desk.position
    stays (inl installed) = let no : true ≡ false = sym halted ∙ ap (λ (d : DeskOn D). d.halted) installed.0 in cc
    stays (inr failed) = ap (λ (d : DeskOn D). d.position) failed.0 ∙ position_is

    by : (o : Result CommandRecord Refusal) → outcome desk.position issuer.id issuer.group text ≡ o → made_of_outcome desk.position.image o ≡ Ok made
        → Fails tells (Command text) (stream_on desk issuing issuer refused acees) (stream_on now issuing issuer refused acees)
    by (Ok given) found h =
        let same : made_at desk.position.image given ≡ made = same_made (made_at desk.position.image given) made h in
        let next : installed judged.position made ≡ position_behind desk.position given =
        ap (λ (p : Position). installed p made) position_is ∙ ap (installed desk.position) (sym same) in
        record {
          line = text;
          is_command = refl;
          accepted = given;
          outcome = found;
          stays = stays ok.done;
          moments =
              subst (λ (p : Position). StaysEither tells desk.store now.store desk.position p) next
              (subst (λ (p : Position). StaysEither tells desk.store now.store p (installed judged.position made)) position_is
              (subst (λ (o : StoreOn D). StaysEither tells o now.store judged.position (installed judged.position made)) (ap (λ (d : DeskOn D). d.store) judges) ok.moments));
        }
    by (Err why) found h = cc
