-- A schedule that is longer changes nothing of the lines before: as many fronts as there were lines are used.
use Rattle.std.proofs.Common.{◌≡◌, ◌+◌, ◌≤◌, Bool, ◌++◌, List, [], ◌∷◌, length, refl, ap, arith, length-append}
use Rattle.std.specs.Prelude.{◌||◌}
use Rattle.racf_outside.specs.Lines as text
use Rattle.desk_rules.specs.Position.{Position}
use Rattle.command_history.specs.declared.events.Event.{Event}
use Rattle.request_files.specs.declared.acees.NamedAcee.{NamedAcee}
use Rattle.statements.specs.Runs.{after, output}
use Rattle.racf_workers.specs.RequestFile.{Turn, FileState, file_state, turn_of, answered, step, text_at, request_machine}

unfoldable pub with_more : List (List Event) → FileState → FileState
with_more more s = record s { fronts = s.fronts ++ more }

module _ (base : Position) (before : List Event) (all more : List (List Event)) where
  -- the state, with the fronts that were added
  pub after_more : (lines : List text.Line) (acees : List NamedAcee) (refused : Bool) (turns : List Turn) (seen : List Event) (fronts : List (List Event)) → length lines ≤ length fronts
      → after (request_machine base before (all ++ more)) lines (file_state acees refused turns seen (fronts ++ more))
      ≡ with_more more (after (request_machine base before all) lines (file_state acees refused turns seen fronts))
  unfolding step with_more
  after_more [] acees refused turns seen fronts h = refl
  after_more (l ∷ lines) acees refused turns seen [] h = absurd (omega arith)
  after_more (l ∷ lines) acees refused turns seen (front ∷ fronts) h =
      let turn = turn_of l (file_state acees refused turns seen (front ∷ fronts)) in
      let outcome = answered base turn in
      after_more lines outcome.acees (refused || outcome.refused) (turns ++ turn ∷ []) front fronts (omega arith)

  -- and the output
  pub output_more : (lines : List text.Line) (acees : List NamedAcee) (refused : Bool) (turns : List Turn) (seen : List Event) (fronts : List (List Event)) → length lines ≤ length fronts
      → output (request_machine base before (all ++ more)) lines (file_state acees refused turns seen (fronts ++ more))
      ≡ output (request_machine base before all) lines (file_state acees refused turns seen fronts)
  unfolding step text_at
  output_more [] acees refused turns seen fronts h = refl
  output_more (l ∷ lines) acees refused turns seen [] h = absurd (omega arith)
  output_more (l ∷ lines) acees refused turns seen (front ∷ fronts) h =
      let turn = turn_of l (file_state acees refused turns seen (front ∷ fronts)) in
      let outcome = answered base turn in
      ap (λ bytes. outcome.text ++ bytes) (output_more lines outcome.acees (refused || outcome.refused) (turns ++ turn ∷ []) front fronts (omega arith))

  -- likewise behind other lines
  pub output_behind : (told lines : List text.Line) (acees : List NamedAcee) (refused : Bool) (turns : List Turn) (seen : List Event) (fronts : List (List Event)) → length told + length lines ≤ length fronts
      → output (request_machine base before (all ++ more)) lines (after (request_machine base before (all ++ more)) told (file_state acees refused turns seen (fronts ++ more)))
      ≡ output (request_machine base before all) lines (after (request_machine base before all) told (file_state acees refused turns seen fronts))
  unfolding step
  output_behind [] lines acees refused turns seen fronts h = output_more lines acees refused turns seen fronts (omega arith)
  output_behind (l ∷ told) lines acees refused turns seen [] h = absurd (omega arith)
  output_behind (l ∷ told) lines acees refused turns seen (front ∷ fronts) h =
      let turn = turn_of l (file_state acees refused turns seen (front ∷ fronts)) in
      let outcome = answered base turn in
      output_behind told lines outcome.acees (refused || outcome.refused) (turns ++ turn ∷ []) front fronts (omega arith)

-- each line has its turn
pub turns_after : (base : Position) (before : List Event) (all : List (List Event)) (lines : List text.Line) (s : FileState) → length (after (request_machine base before all) lines s).turns ≡ length s.turns + length lines
unfolding step
turns_after base before all [] s = omega arith
turns_after base before all (l ∷ lines) s =
    let rest = turns_after base before all lines (step base l s) in
    omega (arith, rest, length-append s.turns (turn_of l s ∷ []))
