-- What a deck prints: each command is given behind some list of the history, and what had been seen only grows.
use Rattle.std.specs.Prelude.{◌≡◌, ◌≢◌, ◌+◌, ℕ, Bool, true, false, ◌||◌, List, [], ◌∷◌, ◌++◌, Option, is_some, Result, Ok, Err}
use Rattle.desk_rules.specs.Position.{Position}
use Rattle.desk_rules.specs.declared.answers.Reply.{Reply}
use Rattle.desk_rules.specs.declared.answers.Reply.TheVariants as reply
use Rattle.command_history.specs.declared.events.Event.{Event}
use Rattle.command_history.specs.Events.{Extends, failed_of}
use Rattle.racroute.specs.Core.{Passing, number_behind}
use Rattle.racroute.specs.Replies.{Given, given_by, Says}
use Rattle.request_files.specs.declared.issuer_line.NamedIssuer.{NamedIssuer}
use Rattle.statements.specs.declared.issuer.Issuing.{Issuing}
use Rattle.statements.specs.declared.reply.Refusal.{Refusal}
use Rattle.statements.specs.declared.reply.Refusal.TheVariants as refusal
use Rattle.statements.specs.declared.reply.Reply.TheVariants as printed
use Rattle.statements.specs.declared.statement.Statement.{Statement}
use Rattle.statements.specs.declared.statement.Statement.TheVariants as item
use Rattle.statements.specs.declared.status.Status.{Status}
use Rattle.statements.specs.declared.status.Status.TheVariants.{NoMemory, WriteFault}
use Rattle.statements.specs.IssuerLines.{first_issuer, issuer_named}
use Rattle.statements.specs.Replies.{reply_line}
use Rattle.statements.specs.Runs.{Machine, Ran}
use Rattle.statements.specs.Inputs.{deck_statements}

-- ---- replies

-- what is printed for a reply: its number and its words; where memory was wanting, nothing
abbrev pub told_line : Reply → List ℕ
told_line (reply.Accepted number) = reply_line number printed.Accepted
told_line (reply.Refused number why) = reply_line number (printed.Refused (refusal.Command why))
told_line (reply.Halted number) = reply_line number printed.Halted
told_line (reply.DiskFault number) = reply_line number printed.DiskFault
told_line reply.NoMemory = []

-- the command was accepted
abbrev pub is_acceptance : Reply → Bool
is_acceptance (reply.Accepted number) = true
is_acceptance (reply.Refused number why) = false
is_acceptance (reply.Halted number) = false
is_acceptance (reply.DiskFault number) = false
is_acceptance reply.NoMemory = false

-- the command was refused
abbrev pub is_refusal : Reply → Bool
is_refusal (reply.Accepted number) = false
is_refusal (reply.Refused number why) = true
is_refusal (reply.Halted number) = false
is_refusal (reply.DiskFault number) = false
is_refusal reply.NoMemory = false

-- a disk failed it, or an earlier one
abbrev pub is_failure : Reply → Bool
is_failure (reply.Accepted number) = false
is_failure (reply.Refused number why) = false
is_failure (reply.Halted number) = true
is_failure (reply.DiskFault number) = true
is_failure reply.NoMemory = false

-- The counts of a pass behind a reply: one more command that was accepted, or one more that a disk failed.
abbrev pub counted : Reply → Passing → Passing
counted (reply.Accepted number) pass = record pass { commands = pass.commands + 1 }
counted (reply.Refused number why) pass = pass
counted (reply.Halted number) pass = pass
counted (reply.DiskFault number) pass = record pass { faults = pass.faults + 1 }
counted reply.NoMemory pass = pass

-- ---- the machine

-- What a command met: the reply, and the history before it and behind it.
pub record Met : Type 0 where
  pub reply : Reply
  pub before : List Event
  pub behind : List Event

-- A command at its turn: as it was given, what its caller had seen and what his pass had counted, and what it met.
pub record Turn : Type 0 where
  pub given : Given
  pub seen : List Event
  pub pass : Passing
  pub met : Met

-- What stands between two lines: who gives the commands, and whether lines may name him; whether a line was refused;
-- whether a disk failed a command; what the pass has counted; and what has been seen of the history. `schedule` is what the commands to come meet, which
-- the threads of a run make; `turns` are those of the commands so far.
pub record DeckState : Type 0 where
  pub issuing : Issuing
  pub issuer : NamedIssuer
  pub has_refused : Bool
  pub has_failed : Bool
  pub pass : Passing
  pub seen : List Event
  pub turns : List Turn
  pub schedule : List Met

-- before the first line
abbrev pub new_deck : Issuing → List Event → Passing → List Met → DeckState
new_deck issuing seen pass schedule =
    record { issuing = issuing; issuer = first_issuer issuing; has_refused = false; has_failed = false; pass = pass; seen = seen; turns = []; schedule = schedule }

-- what the next command meets: where that isn't told, nothing
abbrev pub first_met : List Event → List Met → Met
first_met seen [] = record { reply = reply.NoMemory; before = seen; behind = seen }
first_met seen (met ∷ schedule) = met

abbrev pub behind_first : List Met → List Met
behind_first [] = []
behind_first (met ∷ schedule) = schedule

-- a command's turn: the issuer gives it who was named last
abbrev pub turn_of : List ℕ → DeckState → Turn
turn_of text s =
    record { given = given_by s.issuer.id s.issuer.group text; seen = s.seen; pass = s.pass; met = first_met s.seen s.schedule }

-- what stands behind a command
abbrev pub behind_command : Turn → DeckState → DeckState
behind_command turn s =
    record {
      issuing = s.issuing;
      issuer = s.issuer;
      has_refused = s.has_refused || is_refusal turn.met.reply;
      has_failed = s.has_failed || is_failure turn.met.reply;
      pass = counted turn.met.reply s.pass;
      seen = turn.met.behind;
      turns = s.turns ++ turn ∷ [];
      schedule = behind_first s.schedule;
    }

-- A line that names an issuer who fits prints nothing. One that doesn't fit, and each one where he is fixed, is refused,
-- and the issuer stays.
abbrev pub behind_issuer : Result NamedIssuer Refusal → DeckState → DeckState
behind_issuer (Ok issuer) s = record s { issuer = issuer }
behind_issuer (Err why) s = record s { has_refused = true }

-- A refused line that is no command prints the number of what has been seen, which is the one that was printed last.
abbrev pub refused_line : Position → List Event → Refusal → List ℕ
refused_line base seen why = reply_line (number_behind base seen) (printed.Refused why)

abbrev pub issuer_text : Position → List Event → Result NamedIssuer Refusal → List ℕ
issuer_text base seen (Ok issuer) = []
issuer_text base seen (Err why) = refused_line base seen why

-- What stands behind a statement. In a deck there are no requests: what begins as one is a command.
unfoldable pub step : Statement → DeckState → DeckState
step (item.Command text) s = behind_command (turn_of text s) s
step (item.Request text) s = behind_command (turn_of text s) s
step (item.Issuer text) s = behind_issuer (issuer_named s.issuing text) s
step item.LineTooLong s = record s { has_refused = true }

-- what is printed for it: for a command, what it was told
unfoldable pub text_at : Position → Statement → DeckState → List ℕ
text_at base (item.Command text) s = told_line (turn_of text s).met.reply
text_at base (item.Request text) s = told_line (turn_of text s).met.reply
text_at base (item.Issuer text) s = issuer_text base s.seen (issuer_named s.issuing text)
text_at base item.LineTooLong s = refused_line base s.seen refusal.LineTooLong

-- A deck whose commands meet this, one after another, given so, by somebody who had seen so much, with a pass that had
-- counted so much.
abbrev pub deck_machine : (base : Position) → Issuing → (seen : List Event) → (pass : Passing) → (schedule : List Met) → Machine DeckState Statement
deck_machine base issuing seen pass schedule = record {
  input = deck_statements;
  start = new_deck issuing seen pass schedule;
  step = step;
  text = text_at base;
  has_refused = λ s. s.has_refused;
  has_failed = λ s. s.has_failed;
  accepted = λ s. s.pass.commands;
}

-- ---- what the commands met

-- A command met the history behind some list that extends what had been seen: that the reply says so much of it, and
-- the pass counts it.
pub record IsRight (base : Position) (turn : Turn) : Type 0 where
  pub later : Extends turn.seen turn.met.before
  pub says : Says base turn.given turn.met.reply turn.met.before turn.met.behind turn.pass (counted turn.met.reply turn.pass)
  pub told : turn.met.reply ≢ reply.NoMemory

abbrev pub Course : Position → List Turn → Type 0
Course base [] = Unit {0}
Course base (turn ∷ turns) = IsRight base turn × Course base turns

-- ---- a whole deck

-- some of these commands was told that a disk failed it, or an earlier one
abbrev pub any_failure : List Turn → Bool
any_failure [] = false
any_failure (turn ∷ turns) = is_failure turn.met.reply || any_failure turns

-- Behind the commands that were given: each turn was right; the pass has counted them and no more; a disk failed one
-- exactly where a line says DISKFAULT or HALTED, and then the history has ended so; and all that was seen is a beginning
-- of what the caller has seen now. It is the same, unless memory ran out at a command that was not accepted.
pub record Stands (base : Position) (status : Status) (now : List Event) (pass : Passing) (s : DeckState) : Type 0 where
  pub course : Course base s.turns
  pub counts : s.pass ≡ pass
  pub fails : s.has_failed ≡ any_failure s.turns
  pub failed : s.has_failed ≡ true → is_some (failed_of s.seen) ≡ true
  pub later : Extends s.seen now
  pub exact : status ≢ NoMemory → status ≢ WriteFault → s.seen ≡ now

-- The output of a deck is what its commands were told, each behind some list of the history that extends what its
-- caller had seen then, and what its other lines print.
pub record Gives (base : Position) (issuing : Issuing) (before after : List Event) (pass back : Passing) (read_failed write_failed : Type 0) (status : Status) (source left sunk now : Option (List ℕ)) : Type 0 where
  pub schedule : List Met
  pub ran : Ran (deck_machine base issuing before pass schedule) (Stands base status after back) read_failed write_failed status source left sunk now
