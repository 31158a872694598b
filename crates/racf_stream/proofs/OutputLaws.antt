-- The output of an input as the lines of its statements, and its status as what they say.
use Rattle.std.proofs.Common.{◌≡◌, ℕ, Bool, ◌||◌, List, [], ◌∷◌, ◌++◌, refl, sym, ◌∙◌, ap}
use Rattle.std.specs.Prelude.{Option, map}
use Rattle.std.specs.List.{concat, list_any}
use Rattle.std.proofs.Math.Bool.{or-false, or_assoc}
use Rattle.desk_rules.specs.Position.{Position}
use Rattle.statements.specs.declared.issuer.Issuing.{Issuing}
use Rattle.statements.specs.declared.statement.Statement.{Statement}
use Rattle.statements.specs.Runs.{after, output, whole_status}
use Rattle.racf_stream.specs.Stream.{State, step, text, new_stream}
use Rattle.racf_stream.specs.Script.{stream, script_status}
use Rattle.statements.specs.Inputs.{statements}
use Rattle.racf_stream.specs.Printed.{turns, input_turns, printed, says_failed, says_refused}
use Rattle.racf_stream.proofs.PrintedLaws.{item_says}
use Rattle.racf_stream.proofs.FailedLaws.{item_fails}

module _ (fault : Option ℕ) (issuing : Issuing) (base : Position) where
  pub output_of_turns : (items : List Statement) (s : State) → output (stream fault issuing base) items s ≡ concat (map printed (turns fault items s))
  output_of_turns [] s = refl
  output_of_turns (i ∷ items) s = ap (λ rest. text fault i s ++ rest) (output_of_turns items (step fault i s))

  pub turns-append : (done more : List Statement) (s : State) → turns fault (done ++ more) s ≡ turns fault done s ++ turns fault more (after (stream fault issuing base) done s)
  turns-append [] more s = refl
  turns-append (i ∷ done) more s = ap (λ rest. record { fault = fault; item = i; before = s } ∷ rest) (turns-append done more (step fault i s))

  any_says : (items : List Statement) (s : State) → (after (stream fault issuing base) items s).has_refused ≡ (s.has_refused || list_any says_refused (map printed (turns fault items s)))
  any_says [] s = sym (or-false s.has_refused)
  any_says (i ∷ items) s =
      any_says items (step fault i s)
      ∙ ap (λ b. b || list_any says_refused (map printed (turns fault items (step fault i s)))) (item_says fault i s)
      ∙ or_assoc s.has_refused (says_refused (text fault i s)) (list_any says_refused (map printed (turns fault items (step fault i s))))

  any_fails : (items : List Statement) (s : State) → (after (stream fault issuing base) items s).halted ≡ (s.halted || list_any says_failed (map printed (turns fault items s)))
  any_fails [] s = sym (or-false s.halted)
  any_fails (i ∷ items) s =
      any_fails items (step fault i s)
      ∙ ap (λ b. b || list_any says_failed (map printed (turns fault items (step fault i s)))) (item_fails fault i s)
      ∙ or_assoc s.halted (says_failed (text fault i s)) (list_any says_failed (map printed (turns fault items (step fault i s))))

  pub status_of_turns : (bytes : List ℕ)
      → script_status fault issuing base bytes ≡ whole_status (list_any says_failed (map printed (input_turns fault issuing base bytes))) (list_any says_refused (map printed (input_turns fault issuing base bytes)))
  unfolding new_stream
  status_of_turns bytes =
      let items = statements.items bytes in
      let start : State = new_stream issuing base in
      ap (λ (failed : Bool). whole_status failed (after (stream fault issuing base) items start).has_refused) (any_fails items start)
      ∙ ap (whole_status (list_any says_failed (map printed (input_turns fault issuing base bytes)))) (any_says items start)
