-- Worked rows, computed on the definitions.
use Rattle.std.proofs.Common.{◌≡◌, ℕ, Bool, true, false, List, [], refl}
use Rattle.std.specs.Prelude.{codes}
use Rattle.std.specs.Fmt.{digits}
use Rattle.command_words.specs.LineWords.{words_at}
use Rattle.desk_rules.specs.Position.{first_position}
use Rattle.command_history.specs.Reached.{reached}
use Rattle.request_files.specs.Grammar.{next, deleted, number_after, requested, read}
use Rattle.statements.specs.declared.status.Status.{Status}
use Rattle.statements.specs.declared.status.Status.TheVariants.{Done, Refusals}
use Rattle.racf_workers.specs.RequestFile as file
use Rattle.racf_workers.specs.RequestFile.{outcome_at}
use Rattle.racf_ask.specs.Asking.{ask_output, ask_status, step, text_at, with_number}

-- Questions at a new database print this, and end so.
record Prints (numbered : Bool) (input printed : List ℕ) (status : Status) : Type 0 where
  prints : ask_output numbered first_position input ≡ printed
  ends : ask_status numbered first_position input ≡ status

skipped : Prints true (codes "/* DELETE A\n \n\n") [] Done
unfolding step text_at with_number
skipped = record { prints = refl; ends = refl }

-- Skipped lines and a number that is reached are counted, and print nothing.
plain : Prints false (codes "*AFTER 0\n\nDELETE A\n*AFTER 1") (codes "0 REFUSED NOACEE A\nNEVER 0\n") Refusals
unfolding step text_at with_number file.step file.text_at outcome_at reached requested read words_at next deleted number_after digits
plain = record { prints = refl; ends = refl }

numbered : Prints true (codes "*AFTER 0\n\nDELETE A\n*AFTER 1") (codes "3 0 REFUSED NOACEE A\n4 NEVER 0\n") Refusals
unfolding step text_at with_number file.step file.text_at outcome_at reached requested read words_at next deleted number_after digits
numbered = record { prints = refl; ends = refl }

-- a command is no question
no_command : Prints true (codes "ADDUSER JOE\n*ISSUER IBMUSER\n") (codes "1 0 REFUSED BADLINE 1\n2 0 REFUSED BADLINE 1\n") Refusals
unfolding step text_at with_number file.step file.text_at outcome_at reached requested read words_at next digits
no_command = record { prints = refl; ends = refl }
