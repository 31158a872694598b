-- Without numbers, questions are a request file whose lines are all answered at the empty history; and a history in
-- which nothing was accepted has no other text.
use Rattle.std.proofs.Common.{◌≡◌, ℕ, Bool, false, List, [], ◌∷◌, ◌++◌, refl, sym, ◌∙◌, ap}
use Rattle.std.specs.Prelude.{Option, Some, None}
use Rattle.std.specs.List.{AllByRecursion}
use Rattle.std.specs.Option.{option_to_list}
use Rattle.racf_outside.specs.Lines as text
use Rattle.desk_rules.specs.History.{at}
use Rattle.desk_rules.specs.Position.{Position}
use Rattle.command_history.specs.declared.events.Accepted.{Accepted}
use Rattle.command_history.specs.declared.events.Event.{Event}
use Rattle.command_history.specs.Events.{entries_of}
use Rattle.command_history.specs.Reached.{reached, records_of}
use Rattle.request_files.specs.declared.acees.NamedAcee.{NamedAcee}
use Rattle.request_files.specs.Worked.{worked}
use Rattle.statements.specs.Runs.{after, output, status_of, whole_status}
use Rattle.racf_workers.specs.Lines.{request_lines, all_unskipped, unskipped, asked}
use Rattle.racf_workers.specs.RequestFile as file
use Rattle.racf_workers.specs.RequestFile.{FileState, front_of, behind_first, turn_of, outcome_at, answered, new_file, request_machine}
use Rattle.racf_ask.specs.Asking.{AskState, asking, new_asking, ask_output, ask_status, IsSilent, step, step_unless, text_at, text_unless}

-- ---- one line more, or none where it is skipped
module _ (base : Position) where
  text_more : (is : Option text.Line) (rest : List text.Line) (s : FileState) → text_unless base is s ++ output (request_machine base [] []) rest (step_unless base is s)
      ≡ output (request_machine base [] []) (option_to_list is ++ rest) s
  text_more None rest s = refl
  text_more (Some line) rest s = refl

  after_more : (is : Option text.Line) (rest : List text.Line) (s : FileState) → after (request_machine base [] []) rest (step_unless base is s) ≡ after (request_machine base [] []) (option_to_list is ++ rest) s
  after_more None rest s = refl
  after_more (Some line) rest s = refl

  plain_text : (lines : List text.Line) (s : AskState) → output (asking false base) lines s ≡ output (request_machine base [] []) (all_unskipped lines) s.file
  unfolding step text_at
  plain_text [] s = refl
  plain_text (line ∷ lines) s =
      ap (λ rest. text_unless base (unskipped line) s.file ++ rest) (plain_text lines (step base line s)) ∙ text_more (unskipped line) (all_unskipped lines) s.file

  plain_state : (numbered : Bool) (lines : List text.Line) (s : AskState) → (after (asking numbered base) lines s).file ≡ after (request_machine base [] []) (all_unskipped lines) s.file
  unfolding step
  plain_state numbered [] s = refl
  plain_state numbered (line ∷ lines) s = plain_state numbered lines (step base line s) ∙ after_more (unskipped line) (all_unskipped lines) s.file

  pub plain_output : (bytes : List ℕ) → ask_output false base bytes ≡ output (request_machine base [] []) (request_lines.items bytes) (new_file [] [])
  unfolding request_lines
  plain_output bytes = plain_text (text.lines bytes) new_asking

  pub plain_status : (numbered : Bool) (bytes : List ℕ) → ask_status numbered base bytes ≡ status_of (request_machine base [] []) (after (request_machine base [] []) (request_lines.items bytes) (new_file [] []))
  unfolding request_lines
  plain_status numbered bytes = ap (λ (s : FileState). whole_status false s.has_refused) (plain_state numbered (text.lines bytes) new_asking)

-- ---- fronts without an entry
front_silent : (seen : List Event) (fronts : List (List Event)) → IsSilent seen → AllByRecursion IsSilent fronts → IsSilent (front_of seen fronts)
front_silent seen [] none all = none
front_silent seen (front ∷ fronts) none all = all.0

behind_silent : (fronts : List (List Event)) → AllByRecursion IsSilent fronts → AllByRecursion IsSilent (behind_first fronts)
behind_silent [] all = tt
behind_silent (front ∷ fronts) all = all.1

same_outcome : (base : Position) (line : text.Line) (f g : List Event) (a b : List NamedAcee) → IsSilent f → IsSilent g → a ≡ b → outcome_at base f a (asked line) ≡ outcome_at base g b (asked line)
unfolding outcome_at reached
same_outcome base line f g a b f_none g_none same =
    ap (λ (entries : List Accepted). worked (at base (records_of entries)).image a (asked line)) (f_none ∙ sym g_none)
    ∙ ap (λ acees. worked (at base (records_of (entries_of g))).image acees (asked line)) same

-- two files at such fronts print the same
one_text : (base : Position) (before other : List Event) (befores others : List (List Event)) (lines : List text.Line) (s t : FileState) → s.acees ≡ t.acees → IsSilent s.seen → AllByRecursion IsSilent s.fronts → IsSilent t.seen → AllByRecursion IsSilent t.fronts
    → output (request_machine base before befores) lines s ≡ output (request_machine base other others) lines t
unfolding file.step file.text_at
one_text base before other befores others [] s t same s_none s_all t_none t_all = refl
one_text base before other befores others (line ∷ lines) s t same s_none s_all t_none t_all =
    let f = front_silent s.seen s.fronts s_none s_all in
    let g = front_silent t.seen t.fronts t_none t_all in
    let outcome = same_outcome base line (front_of s.seen s.fronts) (front_of t.seen t.fronts) s.acees t.acees f g same in
    ap (λ o. o.text ++ output (request_machine base before befores) lines (file.step base line s)) outcome
    ∙ ap (λ rest. file.text_at base line t ++ rest)
    (one_text base before other befores others lines (file.step base line s) (file.step base line t) (ap (λ o. o.acees) outcome) f (behind_silent s.fronts s_all) g (behind_silent t.fronts t_all))

pub only_text : (base : Position) (seen : List Event) (fronts : List (List Event)) (bytes : List ℕ) → IsSilent seen → AllByRecursion IsSilent fronts
    → output (request_machine base seen fronts) (request_lines.items bytes) (new_file seen fronts) ≡ ask_output false base bytes
only_text base seen fronts bytes none all =
    one_text base seen [] fronts [] (request_lines.items bytes) (new_file seen fronts) (new_file [] []) refl none all refl tt ∙ sym (plain_output base bytes)
