-- A request file so far: at which fronts its lines were answered, and what a stop leaves.
use Rattle.std.proofs.Common.{◌≡◌, ◌≢◌, ℕ, ◌+◌, ◌≤◌, ◌<◌, ◌^◌, Bool, false, List, [], ◌∷◌, ◌++◌, length, None, Some, Ok, Err, inl, inr, refl, sym, ◌∙◌, ap, subst, arith, append-nil, length-append}
use Rattle.std.specs.Prelude.{Option, Result, IfSome}
use Rattle.std.specs.Option.{option_to_list}
use Rattle.std.specs.Io.KnownBytes.{append_known}
use Rattle.racf_outside.specs.Causes.{Rose}
use Rattle.racf_outside.specs.Lines as text
use Rattle.racf_outside.specs.Reader.{Reader, at_start}
use Rattle.desk_rules.specs.Position.{Position}
use Rattle.command_history.specs.declared.events.Event.{Event}
use Rattle.command_history.specs.Events.{Extends}
use Rattle.request_files.specs.declared.acees.NamedAcee.{NamedAcee}
use Rattle.request_files.specs.declared.line.RequestLine.{RequestLine}
use Rattle.request_files.specs.declared.line.LineRefusal.{LineRefusal}
use Rattle.statements.specs.declared.stopping.Stop.{Stop}
use Rattle.statements.specs.declared.stopping.Stop.TheVariants as stop
use Rattle.statements.specs.declared.status.Status.{Status}
use Rattle.statements.specs.declared.status.Status.TheVariants.{WriteFault, NoMemory, InputTooLong}
use Rattle.statements.specs.Gathering.{Settles, IsCutShort}
use Rattle.statements.specs.NextStatement.{TakesStatements}
use Rattle.statements.specs.Stopping.{Ends}
use Rattle.statements.specs.Runs.{longest_input}
use Rattle.statements.proofs.Walk.{Walk, Grows, Walk-none, Walk-items, Walk-settles, Ran-causes, none_read}
use Rattle.statements.proofs.Stops as stops
use Rattle.statements.proofs.RunLaws.{ran_too_long}
use Rattle.racf_workers.specs.Lines.{asked, request_lines, IsRead, NextsRequest}
use Rattle.racf_workers.specs.RequestFile.{Turn, FileState, file_state, new_file, turn_of, outcome_at, answered, step, text_at, request_machine, IsRight, Course, Stands, Answers}
use Rattle.racf_workers.specs.Answering.{Between, Gathers, AnswersAt, AnswersNext, Skips}
use Rattle.racf_workers.proofs.LineLaws.{no_lines}
use Rattle.racf_workers.proofs.Lengthened.{with_more, after_more, output_more, output_behind, turns_after}

abbrev state_at : Between → List Turn → List Event → List (List Event) → FileState
state_at state turns seen fronts = file_state state.acees state.has_refused turns seen fronts

-- The lines so far were answered at these fronts, all of which are used; the caller had seen `before`, and has seen
-- `seen`.
pub record FileWalk (base : Position) (before seen : List Event) (source : Option (List ℕ)) (reader : Reader) (state : Between) (sunk now : Option (List ℕ)) (gathered : List ℕ) : Type 0 where
  pub fronts : List (List Event)
  pub turns : List Turn
  pub walk : Walk (request_machine base before fronts) source reader 0 (state_at state turns seen []) sunk now gathered
  pub course : Course base turns
  pub counted : length turns ≡ length fronts

pub begun : (base : Position) (seen : List Event) (reader : Reader) (state : Between) (sunk : Option (List ℕ)) (gathered : List ℕ) → reader ≡ at_start reader.left reader.faults → state ≡ record { acees = []; has_refused = false } → gathered ≡ [] → FileWalk base seen seen reader.left reader state sunk sunk gathered
begun base seen reader state sunk gathered fresh new none =
    let at_new : FileWalk base seen seen reader.left (at_start reader.left reader.faults) (record { acees = []; has_refused = false }) sunk sunk [] =
    record { fronts = []; turns = []; walk = Walk-none (request_machine base seen []) reader.left sunk reader.faults; course = tt; counted = refl } in
    let at_reader = subst (λ (r : Reader). FileWalk base seen seen reader.left r (record { acees = []; has_refused = false }) sunk sunk []) (sym fresh) at_new in
    let at_state = subst (λ (s : Between). FileWalk base seen seen reader.left reader s sunk sunk []) (sym new) at_reader in
    subst (λ (bytes : List ℕ). FileWalk base seen seen reader.left reader state sunk sunk bytes) (sym none) at_state

pub settles : (base : Position) (before seen : List Event) (source : Option (List ℕ)) (reader : Reader) (state : Between) (sunk now then : Option (List ℕ)) (gathered rest : List ℕ) → FileWalk base before seen source reader state sunk now gathered → Settles gathered rest now then → FileWalk base before seen source reader state sunk then rest
settles base before seen source reader state sunk now then gathered rest w s =
    record {
      fronts = w.fronts;
      turns = w.turns;
      walk = Walk-settles (request_machine base before w.fronts) source reader 0 (state_at state w.turns seen []) sunk now then gathered rest w.walk s;
      course = w.course;
      counted = w.counted;
    }

-- ---- one more front
lengthened : (base : Position) (before seen : List Event) (source : Option (List ℕ)) (reader : Reader) (state : Between) (sunk now : Option (List ℕ)) (gathered : List ℕ) (fronts more : List (List Event)) (turns : List Turn) → length turns ≡ length fronts
    → Walk (request_machine base before fronts) source reader 0 (state_at state turns seen []) sunk now gathered → Walk (request_machine base before (fronts ++ more)) source reader 0 (state_at state turns seen more) sunk now gathered
unfolding with_more
lengthened base before seen source reader state sunk now gathered fronts more turns counted w =
    let size : length turns ≡ 0 + length w.done = ap (λ (s : FileState). length s.turns) w.state ∙ turns_after base before fronts w.done (new_file before fronts) in
    let few : length w.done ≤ length fronts = omega (arith, size, counted) in
    let parts : length w.done ≡ length w.told + length w.waiting = ap length w.parts ∙ length-append w.told w.waiting in
    record {
      read = w.read;
      done = w.done;
      given = w.given;
      counted = w.counted;
      goes_on = w.goes_on;
      last = w.last;
      state = ap (with_more more) w.state ∙ sym (after_more base before fronts more w.done [] false [] before fronts few);
      told = w.told;
      waiting = w.waiting;
      parts = w.parts;
      gained = w.gained ∙ ap (append_known sunk) (sym (output_more base before fronts more w.told [] false [] before fronts (omega (arith, few, parts))));
      whole = w.whole ∙ sym (output_behind base before fronts more w.told w.waiting [] false [] before fronts (omega (arith, few, parts)));
      few = omega arith;
      alone = λ front final is. omega arith;
    }

course_more : (base : Position) (turns : List Turn) (turn : Turn) → Course base turns → IsRight base turn → Course base (turns ++ turn ∷ [])
course_more base [] turn c r = (r, tt)
course_more base (t ∷ turns) turn c r = (c.0, course_more base turns turn c.1 r)

-- what a line does, where its outcome was gathered
step_is : (base : Position) (l : text.Line) (old new : Between) (turns : List Turn) (seen front : List Event) (gathered now : List ℕ) → Gathers (outcome_at base front old.acees (asked l)) old new gathered now
    → state_at new (turns ++ turn_of l (state_at old turns seen (front ∷ [])) ∷ []) front [] ≡ step base l (state_at old turns seen (front ∷ []))
unfolding step
step_is base l old new turns seen front gathered now g =
    let turn = turn_of l (state_at old turns seen (front ∷ [])) in
    ap (λ (acees : List NamedAcee). file_state acees new.has_refused (turns ++ turn ∷ []) front []) g.acees
    ∙ ap (λ (refused : Bool). file_state (answered base turn).acees refused (turns ++ turn ∷ []) front []) g.refused

text_is : (base : Position) (l : text.Line) (old new : Between) (turns : List Turn) (seen front : List Event) (gathered now : List ℕ) → Gathers (outcome_at base front old.acees (asked l)) old new gathered now
    → now ≡ gathered ++ (text_at base l (state_at old turns seen (front ∷ [])) ++ [])
unfolding text_at
text_is base l old new turns seen front gathered now g = g.text ∙ ap (λ bytes. gathered ++ bytes) (sym (append-nil (outcome_at base front old.acees (asked l)).text))

-- ---- a line was answered, or skipped
answers_line : (base : Position) (before seen front : List Event) (l : text.Line) (bytes : List ℕ) (source : Option (List ℕ)) (old new : Reader) (s t : Between) (sunk now then : Option (List ℕ)) (gathered more : List ℕ)
    → FileWalk base before seen source old s sunk now gathered → TakesStatements request_lines (l ∷ []) bytes old new → Extends seen front → AnswersAt base (asked l) seen front s t gathered more now then
    → FileWalk base before front source new t sunk then more
answers_line base before seen front l bytes source old new s t sunk now then gathered more w takes later a =
    let v = settles base before seen source old s sunk now then gathered a.rest w a.settled in
    let start = state_at s v.turns seen (front ∷ []) in
    let turn = turn_of l start in
    let m = request_machine base before (v.fronts ++ front ∷ []) in
    record {
      fronts = v.fronts ++ front ∷ [];
      turns = v.turns ++ turn ∷ [];
      walk =
          Walk-items m (l ∷ []) bytes source old new 0 start (state_at t (v.turns ++ turn ∷ []) front []) sunk then a.rest more
          (lengthened base before seen source old s sunk then a.rest v.fronts (front ∷ []) v.turns v.counted v.walk) takes tt
          (step_is base l s t v.turns seen front a.rest more a.gathers)
          (text_is base l s t v.turns seen front a.rest more a.gathers) (omega arith);
      course = course_more base v.turns turn v.course (record { later = later; moved = a.moved });
      counted = omega (arith, v.counted, length-append v.turns (turn ∷ []), length-append v.fronts (front ∷ []));
    }

skips_line : (base : Position) (before seen front : List Event) (bytes : List ℕ) (source : Option (List ℕ)) (old new : Reader) (s t : Between) (sunk now then : Option (List ℕ)) (gathered more : List ℕ)
    → FileWalk base before seen source old s sunk now gathered → TakesStatements request_lines [] bytes old new → Skips seen front s t gathered more now then
    → FileWalk base before front source new t sunk then more
skips_line base before seen front bytes source old new s t sunk now then gathered more w takes k =
    let m = request_machine base before w.fronts in
    let walk = Walk-items m [] bytes source old new 0 (state_at s w.turns seen []) (state_at s w.turns seen []) sunk now gathered gathered w.walk takes tt refl (sym (append-nil gathered)) (omega arith) in
    let here : FileWalk base before seen source new s sunk now gathered = record { fronts = w.fronts; turns = w.turns; walk = walk; course = w.course; counted = w.counted } in
    subst (λ (e : List Event). FileWalk base before e source new t sunk then more) (sym k.front_is)
    (subst (λ (x : Between). FileWalk base before seen source new x sunk then more) (sym k.state)
    (subst (λ (b : List ℕ). FileWalk base before seen source new s sunk then b) (sym k.gathered_is)
    (subst (λ (o : Option (List ℕ)). FileWalk base before seen source new s sunk o gathered) (sym k.sink) here)))

pub goes_on : (base : Position) (before seen front : List Event) (told : Option (Result RequestLine LineRefusal)) (source : Option (List ℕ)) (old new : Reader) (s t : Between) (sunk now then : Option (List ℕ)) (gathered more : List ℕ)
    → FileWalk base before seen source old s sunk now gathered → NextsRequest (Ok told) old new → Extends seen front → AnswersNext base told seen front s t gathered more now then
    → FileWalk base before front source new t sunk then more
goes_on base before seen front told source old new s t sunk now then gathered more w nexts later answers = by told nexts.0 nexts.2 nexts.3 answers
  where
    by : (told : Option (Result RequestLine LineRefusal)) (l : Option text.Line) → TakesStatements request_lines (option_to_list l) nexts.1 old new → IsRead l told → AnswersNext base told seen front s t gathered more now then → FileWalk base before front source new t sunk then more
    by None None takes read a = skips_line base before seen front nexts.1 source old new s t sunk now then gathered more w takes a
    by (Some r) (Some l) takes read a =
        answers_line base before seen front l nexts.1 source old new s t sunk now then gathered more w takes later
        (subst (λ request. AnswersAt base request seen front s t gathered more now then) read a)
    by (Some r) None takes read a = absurd read
    by None (Some l) takes read a = absurd read

-- a line that came took some bytes
pub passes_more : (told : Option (Result RequestLine LineRefusal)) (old new : Reader) → NextsRequest (Ok told) old new → old.passed < new.passed
passes_more told old new nexts = let some = nexts.2.some in let counted = nexts.2.counted in omega (arith, some, counted)

-- ---- the stops
pub same_events : (events : List Event) → Extends events events
same_events events = record { prefix = ([], append-nil events); whole = λ ended. refl }

-- no line is a command
grows : (base : Position) (before : List Event) (fronts : List (List Event)) → Grows (request_machine base before fronts)
grows base before fronts line s = omega arith

-- R and W are why a read or a write may fail.
module _ (base : Position) (before seen last : List Event) (R W : Type 0) (source : Option (List ℕ)) (old new : Reader) (state : Between) (sunk now then : Option (List ℕ)) (gathered : List ℕ) (w : FileWalk base before seen source old state sunk now gathered) where
  -- no line came
  pub stopped : (refused : Bool) → refused ≡ state.has_refused → last ≡ seen → (why : Stop) (status : Status) → NextsRequest (Err why) old new → new.passed ≤ 2 ^ 28 → (Rose old.faults new.faults → R) → Ends W why false refused status gathered now then → Answers base before last R W status source new.left sunk then
  stopped refused is same why status h limit read ends =
      let later : Extends seen last = subst (λ (e : List Event). Extends seen e) (sym same) (same_events seen) in
      record {
        fronts = w.fronts;
        ran =
            stops.stopped (request_machine base before w.fronts) (Stands base status last) R W source old new 0 (state_at state w.turns seen []) sunk now then gathered w.walk
            (record { course = w.course; later = later; exact = λ _ _. sym same }) (grows base before w.fronts) (omega arith) no_lines why status h limit read
            (subst (λ (r : Bool). Ends W why false r status gathered now then) is ends);
      }

  -- what is gathered couldn't be written
  pub cut : Extends seen last → W → IsCutShort gathered now then → Answers base before last R W WriteFault source new.left sunk then
  cut later why short =
      record {
        fronts = w.fronts;
        ran =
            stops.cut (request_machine base before w.fronts) (Stands base WriteFault last) R W source old new 0 (state_at state w.turns seen []) sunk now then gathered w.walk
            (record { course = w.course; later = later; exact = λ _ h. absurd (h refl) }) (grows base before w.fronts) (omega arith) why WriteFault short refl;
      }

  -- memory ran out before the line was answered
  pub unanswered_by : Extends seen last → (status : Status) → Ends W stop.NoMemory false state.has_refused status gathered now then → Answers base before last R W status source new.left sunk then
  unanswered_by later status ends =
      record {
        fronts = w.fronts;
        ran =
            stops.unanswered (request_machine base before w.fronts) (Stands base status last) R W source old new 0 (state_at state w.turns seen []) sunk now then gathered w.walk
            (record { course = w.course; later = later; exact = by ends }) (grows base before w.fronts) (omega arith) status ends;
      }
    where
      by : Ends W stop.NoMemory false state.has_refused status gathered now then → status ≢ NoMemory → status ≢ WriteFault → seen ≡ last
      by (inl h) not_memory not_write = absurd (not_memory h.0)
      by (inr h) not_memory not_write = absurd (not_write h.0)

-- likewise where it is known that nothing has changed, but that what is gathered may have been written before a wait
pub unanswered : (base : Position) (before seen last : List Event) (R W : Type 0) (source : Option (List ℕ)) (old new : Reader) (s t : Between) (sunk now mid then : Option (List ℕ)) (gathered more : List ℕ) (refused : Bool) (status : Status)
    → FileWalk base before seen source old s sunk now gathered → (t ≡ s) × Settles gathered more now mid → Extends seen last → refused ≡ t.has_refused → Ends W stop.NoMemory false refused status more mid then
    → Answers base before last R W status source new.left sunk then
unanswered base before seen last R W source old new s t sunk now mid then gathered more refused status w same later is ends =
    unanswered_by base before seen last R W source old new s sunk mid then more (settles base before seen source old s sunk now mid gathered more w same.1) later status
    (subst (λ (r : Bool). Ends W stop.NoMemory false r status more mid then) (is ∙ ap (λ (x : Between). x.has_refused) same.0) ends)

-- nothing was read
pub none_answered : (base : Position) (seen : List Event) (R W : Type 0) (source left sunk : Option (List ℕ)) → Answers base seen seen R W NoMemory source left sunk sunk
none_answered base seen R W source left sunk =
    record {
      fronts = [];
      ran = none_read (request_machine base seen []) (Stands base NoMemory seen) R W source left sunk (record { course = tt; later = same_events seen; exact = λ _ _. refl });
    }

-- a line doesn't end within the longest input
pub too_long : (base : Position) (before after : List Event) (R W : Type 0) (status : Status) (source known left sunk now : Option (List ℕ)) → Answers base before after R W status source left sunk now → source ≡ known → status ≡ InputTooLong → IfSome known (λ bytes. longest_input < length bytes)
too_long base before after R W status source known left sunk now a same is =
    let P : Option (List ℕ) → Type 0 = λ given. IfSome given (λ bytes. longest_input < length bytes) in
    let long : P source = ran_too_long (request_machine base before a.fronts) (Stands base status after) R W status source left sunk now a.ran is in
    subst P same long

-- a run of the same file, by weaker causes
pub answers-causes : (base : Position) (before after : List Event) (R R2 W W2 : Type 0) (status : Status) (source left sunk now : Option (List ℕ)) → (R → R2) → (W → W2) → Answers base before after R W status source left sunk now → Answers base before after R2 W2 status source left sunk now
answers-causes base before after R R2 W W2 status source left sunk now r w a =
    record { fronts = a.fronts; ran = Ran-causes (request_machine base before a.fronts) (Stands base status after) R R2 W W2 status source left sunk now r w a.ran }
