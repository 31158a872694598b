-- Worked rows, computed on the definitions.
use Rattle.std.proofs.Common.{◌≡◌, ℕ, Bool, true, false, List, [], ◌∷◌, inr, refl}
use Rattle.std.specs.Prelude.{None, codes}
use Rattle.std.specs.Fmt.{digits}
use Rattle.command_words.specs.LineWords.{words_at}
use Rattle.desk_rules.specs.Position.{first_position}
use Rattle.command_history.specs.declared.events.Event.{Event}
use Rattle.command_history.specs.declared.events.Event.TheVariants.{Ended}
use Rattle.command_history.specs.Reached.{reached}
use Rattle.request_files.specs.Grammar.{next, deleted, number_after, requested, read}
use Rattle.statements.specs.Runs.{after, output}
use Rattle.racf_workers.specs.Lines.{request_lines}
use Rattle.racf_workers.specs.RequestFile.{FileState, new_file, outcome_at, step, text_at, request_machine, Course}

abbrev behind_all : (seen : List Event) (fronts : List (List Event)) → List ℕ → FileState
behind_all seen fronts bytes = after (request_machine first_position seen fronts) (request_lines.items bytes) (new_file seen fronts)

-- A request file over a new database prints this, where its lines are answered at these fronts.
record Prints (fronts : List (List Event)) (input printed : List ℕ) (refused : Bool) : Type 0 where
  prints : output (request_machine first_position [] fronts) (request_lines.items input) (new_file [] fronts) ≡ printed
  ends : (behind_all [] fronts input).has_refused ≡ refused

empty : Prints [] [] [] false
unfolding request_lines
empty = record { prints = refl; ends = refl }

-- skipped lines
skipped : Prints [] (codes "/* DELETE A\n \n\n") [] false
unfolding request_lines
skipped = record { prints = refl; ends = refl }

-- no ACEE has that name
no_acee : Prints ([] ∷ []) (codes "DELETE A\n") (codes "0 REFUSED NOACEE A\n") true
unfolding request_lines step text_at outcome_at reached requested read words_at next deleted digits
no_acee = record { prints = refl; ends = refl }

-- a command and the line of an issuer are no requests, and the last line needs no feed
no_request : Prints ([] ∷ [] ∷ []) (codes " ADDUSER JOE\n*ISSUER IBMUSER") (codes "0 REFUSED BADLINE 2\n0 REFUSED BADLINE 1\n") true
unfolding request_lines step text_at outcome_at reached requested read words_at next digits
no_request = record { prints = refl; ends = refl }

-- a number that is reached, and one that is never reached, since the history has ended
reached_number : Prints ([] ∷ []) (codes "*AFTER 0\n") [] false
unfolding request_lines step text_at outcome_at reached requested read words_at next number_after digits
reached_number = record { prints = refl; ends = refl }

never_reached : Prints ((Ended None ∷ []) ∷ []) (codes "*AFTER 1\n") (codes "NEVER 0\n") true
unfolding request_lines step text_at outcome_at reached requested read words_at next number_after digits
never_reached = record { prints = refl; ends = refl }

-- that wait was right
awaited : Course first_position (behind_all [] ((Ended None ∷ []) ∷ []) (codes "*AFTER 1\n")).turns
unfolding request_lines step outcome_at reached requested read words_at next number_after
awaited = (record { later = record { prefix = (Ended None ∷ [], refl); whole = λ ended. cc }; moved = inr refl }, tt)
