-- Worked rows of decks, computed on the definitions.
use Rattle.std.proofs.Common.{◌≡◌, ℕ, Bool, true, false, List, [], ◌∷◌, refl}
use Rattle.std.specs.Prelude.{Some, codes}
use Rattle.std.specs.Fmt.{digits}
use Rattle.command_words.specs.LineWords.{words_at}
use Rattle.desk_rules.specs.Position.{first_position}
use Rattle.desk_rules.specs.declared.answers.Reply.{Reply}
use Rattle.desk_rules.specs.declared.answers.Reply.TheVariants as reply
use Rattle.command_history.specs.declared.events.Accepted.{Accepted}
use Rattle.command_history.specs.declared.events.Event.{Event}
use Rattle.command_history.specs.declared.events.Event.TheVariants.{Ended}
use Rattle.command_history.specs.Reached.{reached}
use Rattle.racroute.specs.Core.{Passing}
use Rattle.request_files.specs.Grammar.{next}
use Rattle.request_files.specs.IssuerLines.{issuer_by, issuer_of_line}
use Rattle.statements.specs.declared.issuer.Issuing.{Issuing}
use Rattle.statements.specs.declared.issuer.Issuing.TheVariants.{Free, Fixed}
use Rattle.statements.specs.Replies.{reply_line}
use Rattle.statements.specs.Runs.{after, output}
use Rattle.statements.specs.Inputs.{deck_statements, statements_of}
use Rattle.statements.specs.Statements.{request_of}
use Rattle.racf_workers.specs.Deck.{Met, DeckState, new_deck, step, text_at, deck_machine}

abbrev passing : ℕ → ℕ → Passing
passing commands faults = record { deck = 0; commands = commands; faults = faults }

abbrev behind_all : Issuing → (schedule : List Met) → List ℕ → DeckState
behind_all issuing schedule bytes = after (deck_machine first_position issuing [] (passing 0 0) schedule) (deck_statements.items bytes) (new_deck issuing [] (passing 0 0) schedule)

-- A deck over a new database prints this, where its commands are given so and meet that, and its pass counts so much.
record PrintsGiven (issuing : Issuing) (schedule : List Met) (input printed : List ℕ) (counts : Passing) (refused failed : Bool) : Type 0 where
  prints : output (deck_machine first_position issuing [] (passing 0 0) schedule) (deck_statements.items input) (new_deck issuing [] (passing 0 0) schedule) ≡ printed
  passes : (behind_all issuing schedule input).pass ≡ counts
  refuses : (behind_all issuing schedule input).has_refused ≡ refused
  fails : (behind_all issuing schedule input).has_failed ≡ failed

abbrev Prints : (schedule : List Met) → (input printed : List ℕ) → (counts : Passing) → (refused failed : Bool) → Type 0
Prints schedule input printed counts refused failed = PrintsGiven Free schedule input printed counts refused failed

abbrev met : Reply → List Event → List Event → Met
met told before behind = record { reply = told; before = before; behind = behind }

empty : Prints [] [] [] (passing 0 0) false false
unfolding statements_of
empty = record { prints = refl; passes = refl; refuses = refl; fails = refl }

-- a line that names an issuer who doesn't fit, and one who does
issuers : Prints [] (codes "*ISSUER A,B\n*issuer A-\n") (codes "0 REFUSED SYNTAX BADVALUE 9\n0 REFUSED SYNTAX BADVALUE 9\n") (passing 0 0) true false
unfolding statements_of request_of step text_at reached reply_line digits issuer_of_line issuer_by words_at next
issuers = record { prints = refl; passes = refl; refuses = refl; fails = refl }

-- none is named where the issuer is fixed
fixed : PrintsGiven (Fixed (codes "ANN")) [] (codes "*ISSUER BOB\n*issuer A,B\n") (codes "0 REFUSED ISSUERFIXED\n0 REFUSED ISSUERFIXED\n") (passing 0 0) true false
unfolding statements_of request_of step text_at reached reply_line digits
fixed = record { prints = refl; passes = refl; refuses = refl; fails = refl }

-- a command over two lines that begins as a request would; it is accepted, whatever its number
accepted : Prints (met (reply.Accepted 7) [] [] ∷ []) (codes "/* x\nVERIFY A-\n B\n") (codes "7 ACCEPTED\n") (passing 1 0) false false
unfolding statements_of request_of step text_at reply_line digits
accepted = record { prints = refl; passes = refl; refuses = refl; fails = refl }

-- a disk fails a command, whose entry the history ends with, and the one behind it is told so
abbrev failing : Accepted → List Met
failing entry = met (reply.DiskFault 0) [] (Ended (Some entry) ∷ []) ∷ met (reply.Halted 0) (Ended (Some entry) ∷ []) (Ended (Some entry) ∷ []) ∷ []

failed : (entry : Accepted) → Prints (failing entry) (codes "AU A\n\nAU B") (codes "0 DISKFAULT\n0 HALTED\n") (passing 0 1) false true
unfolding statements_of request_of step text_at reply_line digits
failed entry = record { prints = refl; passes = refl; refuses = refl; fails = refl }
