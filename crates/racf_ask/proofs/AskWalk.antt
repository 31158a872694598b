-- Questions so far, and what a stop leaves.
use Rattle.std.proofs.Common.{◌≡◌, ℕ, ◌+◌, ◌≤◌, ◌<◌, ◌^◌, Bool, false, ◌||◌, List, [], ◌∷◌, ◌++◌, None, Some, Ok, Err, refl, sym, ◌∙◌, ap, subst, arith, append-nil}
use Rattle.std.specs.Prelude.{Option, Result}
use Rattle.racf_outside.specs.Causes.{Rose}
use Rattle.racf_outside.specs.Lines as text
use Rattle.racf_outside.specs.Reader.{Reader, at_start}
use Rattle.desk_rules.specs.Position.{Position}
use Rattle.command_history.specs.Reached.{reached}
use Rattle.raclist_image.specs.Imaged.{Imaged}
use Rattle.request_files.specs.declared.acees.NamedAcee.{NamedAcee}
use Rattle.request_files.specs.declared.line.RequestLine.{RequestLine}
use Rattle.request_files.specs.declared.line.LineRefusal.{LineRefusal}
use Rattle.request_files.specs.Seen.{line_read}
use Rattle.request_files.specs.Worked.{worked}
use Rattle.statements.specs.declared.stopping.Stop.{Stop}
use Rattle.statements.specs.declared.stopping.Stop.TheVariants as stop
use Rattle.statements.specs.declared.status.Status.{Status}
use Rattle.statements.specs.declared.status.Status.TheVariants.{WriteFault}
use Rattle.statements.specs.Gathering.{Settles, IsCutShort}
use Rattle.statements.specs.Stopping.{Ends}
use Rattle.statements.specs.Runs.{Ran}
use Rattle.statements.proofs.Walk.{Walk, Grows, Walk-none, Walk-items, Walk-settles}
use Rattle.statements.proofs.Stops as stops
use Rattle.racf_workers.specs.Lines.{asked, unskipped, IsRead}
use Rattle.racf_workers.specs.RequestFile as file
use Rattle.racf_workers.specs.RequestFile.{Turn, FileState, file_state, turn_of, outcome_at, answered}
use Rattle.racf_ask.specs.Asking.{AskState, asking, shown, step, step_unless, text_at, text_unless}
use Rattle.racf_ask.specs.Answering.{Between, Gathers, NextsLine, outcome_on}
use Rattle.racf_ask.proofs.LineLaws.{no_lines}
use Rattle.racf_ask.proofs.Skipping.{or_false}

abbrev pub Nothing : AskState → Type 0
Nothing s = Unit {0}

abbrev file_at : Between → List Turn → FileState
file_at state turns = file_state state.acees state.has_refused turns [] []

abbrev state_at : Between → List Turn → AskState
state_at state turns = record { lines = state.lines; file = file_at state turns }

-- The lines so far were answered at the empty history.
pub record AskWalk (numbered : Bool) (base : Position) (source : Option (List ℕ)) (reader : Reader) (state : Between) (sunk now : Option (List ℕ)) (gathered : List ℕ) : Type 0 where
  pub turns : List Turn
  pub walk : Walk (asking numbered base) source reader 0 (state_at state turns) sunk now gathered

module _ (numbered : Bool) (base : Position) where
  pub begun : (reader : Reader) (state : Between) (sunk : Option (List ℕ)) (gathered : List ℕ) → reader ≡ at_start reader.left reader.faults → state ≡ record { acees = []; has_refused = false; lines = 0 } → gathered ≡ [] → AskWalk numbered base reader.left reader state sunk sunk gathered
  begun reader state sunk gathered fresh new none =
      let at_new : AskWalk numbered base reader.left (at_start reader.left reader.faults) (record { acees = []; has_refused = false; lines = 0 }) sunk sunk [] =
      record { turns = []; walk = Walk-none (asking numbered base) reader.left sunk reader.faults } in
      let at_reader = subst (λ (r : Reader). AskWalk numbered base reader.left r (record { acees = []; has_refused = false; lines = 0 }) sunk sunk []) (sym fresh) at_new in
      let at_state = subst (λ (s : Between). AskWalk numbered base reader.left reader s sunk sunk []) (sym new) at_reader in
      subst (λ (bytes : List ℕ). AskWalk numbered base reader.left reader state sunk sunk bytes) (sym none) at_state

  pub settles : (source : Option (List ℕ)) (reader : Reader) (state : Between) (sunk now then : Option (List ℕ)) (gathered rest : List ℕ) → AskWalk numbered base source reader state sunk now gathered → Settles gathered rest now then → AskWalk numbered base source reader state sunk then rest
  settles source reader state sunk now then gathered rest w s =
      record { turns = w.turns; walk = Walk-settles (asking numbered base) source reader 0 (state_at state w.turns) sunk now then gathered rest w.walk s }

  -- ---- one line

  -- what stands behind it, and what was gathered for it
  pub record Steps (line : text.Line) (s t : Between) (turns : List Turn) (gathered more : List ℕ) : Type 0 where
    pub next : List Turn
    pub state : state_at t next ≡ step base line (state_at s turns)
    pub text : more ≡ gathered ++ (text_at numbered base line (state_at s turns) ++ [])

  -- the image behind the empty history is that of the position
  same_outcome : (image : Imaged) (acees : List NamedAcee) (told : Result RequestLine LineRefusal) (l : text.Line) → base.image ≡ image → line_read told ≡ asked l → worked image acees (line_read told) ≡ outcome_at base [] acees (asked l)
  unfolding outcome_at reached
  same_outcome image acees told l same read = ap (λ (i : Imaged). worked i acees (line_read told)) (sym same) ∙ ap (λ request. worked base.image acees request) read

  -- the state that a gathered outcome leaves
  state_is : (s t : Between) (turns : List Turn) (number : ℕ) (acees : List NamedAcee) (refused : Bool) → t.acees ≡ acees → t.has_refused ≡ refused → t.lines ≡ number → state_at t turns ≡ record { lines = number; file = file_state acees refused turns [] [] }
  state_is s t turns number acees refused a r n =
      ap (λ (lines : ℕ). record { lines = lines; file = file_at t turns }) n
      ∙ ap (λ (x : List NamedAcee). record { lines = number; file = file_state x t.has_refused turns [] [] }) a
      ∙ ap (λ (x : Bool). record { lines = number; file = file_state acees x turns [] [] }) r

  stepped : (image : Imaged) (line : text.Line) (is : Option text.Line) (told : Option (Result RequestLine LineRefusal)) (s t : Between) (turns : List Turn) (gathered more : List ℕ) → base.image ≡ image → unskipped line ≡ is → IsRead is told
      → Gathers numbered (s.lines + 1) (outcome_on image s.acees told) s t gathered more → Steps line s t turns gathered more
  unfolding step text_at file.step file.text_at
  stepped image line None None s t turns gathered more same is read g =
      record {
        next = turns;
        state =
            state_is s t turns (s.lines + 1) s.acees s.has_refused g.acees (g.refused ∙ or_false s.has_refused) g.lines
            ∙ ap (λ u. record { lines = s.lines + 1; file = step_unless base u (file_at s turns) }) (sym is);
        text =
            g.text
            ∙ ap (λ u. gathered ++ shown numbered (s.lines + 1) (text_unless base u (file_at s turns))) (sym is)
            ∙ ap (λ bytes. gathered ++ bytes) (sym (append-nil (shown numbered (s.lines + 1) (text_unless base (unskipped line) (file_at s turns)))));
      }
  stepped image line (Some l) (Some told) s t turns gathered more same is read g =
      let turn : Turn = turn_of l (file_at s turns) in
      let outcome = same_outcome image s.acees told l same read in
      record {
        next = turns ++ turn ∷ [];
        state =
            state_is s t (turns ++ turn ∷ []) (s.lines + 1) (outcome_at base [] s.acees (asked l)).acees (s.has_refused || (outcome_at base [] s.acees (asked l)).refused)
            (g.acees ∙ ap (λ o. o.acees) outcome) (g.refused ∙ ap (λ o. s.has_refused || o.refused) outcome) g.lines
            ∙ ap (λ u. record { lines = s.lines + 1; file = step_unless base u (file_at s turns) }) (sym is);
        text =
            g.text
            ∙ ap (λ o. gathered ++ shown numbered (s.lines + 1) o.text) outcome
            ∙ ap (λ u. gathered ++ shown numbered (s.lines + 1) (text_unless base u (file_at s turns))) (sym is)
            ∙ ap (λ bytes. gathered ++ bytes) (sym (append-nil (shown numbered (s.lines + 1) (text_unless base (unskipped line) (file_at s turns)))));
      }
  stepped image line None (Some told) s t turns gathered more same is read g = absurd read
  stepped image line (Some l) None s t turns gathered more same is read g = absurd read

  pub goes_on : (image : Imaged) (told : Option (Result RequestLine LineRefusal)) (source : Option (List ℕ)) (old new : Reader) (s t : Between) (sunk now : Option (List ℕ)) (gathered more : List ℕ) → base.image ≡ image
      → AskWalk numbered base source old s sunk now gathered → NextsLine (Ok told) old new → Gathers numbered (s.lines + 1) (outcome_on image s.acees told) s t gathered more
      → AskWalk numbered base source new t sunk now more
  goes_on image told source old new s t sunk now gathered more same w nexts g =
      let steps = stepped image nexts.0 (unskipped nexts.0) told s t w.turns gathered more same refl nexts.3 g in
      record {
        turns = steps.next;
        walk =
            Walk-items (asking numbered base) (nexts.0 ∷ []) nexts.1 source old new 0 (state_at s w.turns) (state_at t steps.next) sunk now gathered more w.walk nexts.2 tt
            steps.state steps.text (omega arith);
      }

  grows : Grows (asking numbered base)
  grows line s = omega arith

  -- ---- the stops
  module _ (R W : Type 0) (source : Option (List ℕ)) (old new : Reader) (state : Between) (sunk now then : Option (List ℕ)) (gathered : List ℕ) (w : AskWalk numbered base source old state sunk now gathered) where
    -- no line came
    pub stopped : (refused : Bool) → refused ≡ state.has_refused → (why : Stop) (status : Status) → NextsLine (Err why) old new → new.passed ≤ 2 ^ 28 → (Rose old.faults new.faults → R) → Ends W why false refused status gathered now then → Ran (asking numbered base) Nothing R W status source new.left sunk then
    stopped refused is why status h limit read ends =
        stops.stopped (asking numbered base) Nothing R W source old new 0 (state_at state w.turns) sunk now then gathered w.walk tt grows (omega arith) no_lines why status h limit read
        (subst (λ (r : Bool). Ends W why false r status gathered now then) is ends)

    -- what is gathered couldn't be written
    pub cut : W → IsCutShort gathered now then → Ran (asking numbered base) Nothing R W WriteFault source new.left sunk then
    cut why short =
        stops.cut (asking numbered base) Nothing R W source old new 0 (state_at state w.turns) sunk now then gathered w.walk tt grows (omega arith) why WriteFault short refl

    -- memory ran out before the line was answered
    pub unanswered : (refused : Bool) (status : Status) → Ends W stop.NoMemory false refused status gathered now then → Ran (asking numbered base) Nothing R W status source new.left sunk then
    unanswered refused status ends =
        stops.unanswered (asking numbered base) Nothing R W source old new 0 (state_at state w.turns) sunk now then gathered w.walk tt grows (omega arith) status ends

-- a line that came took some bytes
pub passes_more : (told : Option (Result RequestLine LineRefusal)) (old new : Reader) → NextsLine (Ok told) old new → old.passed < new.passed
passes_more told old new nexts = let some = nexts.2.some in let counted = nexts.2.counted in omega (arith, some, counted)

-- before the first line none came
pub none_came : (state : Between) (passed : ℕ) → state ≡ record { acees = []; has_refused = false; lines = 0 } → state.lines ≤ passed
none_came state passed new = subst (λ (s : Between). s.lines ≤ passed) (sym new) (omega arith)
