-- The steps in which the statements of a deck are worked.
use Rattle.std.specs.Prelude.{◌≡◌, ◌++◌, ◌||◌, ℕ, Bool, true, false, List, [], Option, Some, None, Result, Ok, Err}
use Rattle.desk_rules.specs.Position.{Position}
use Rattle.desk_rules.specs.declared.answers.Reply.{Reply}
use Rattle.desk_rules.specs.declared.answers.Reply.TheVariants as reply
use Rattle.command_history.specs.declared.events.Event.{Event}
use Rattle.racroute.specs.Core.{Passing}
use Rattle.racroute.specs.Replies.{given_by}
use Rattle.request_files.specs.declared.issuer_line.NamedIssuer.{NamedIssuer}
use Rattle.statements.specs.declared.issuer.Issuing.{Issuing}
use Rattle.statements.specs.declared.reply.Refusal.{Refusal}
use Rattle.statements.specs.declared.reply.Refusal.TheVariants as refusal
use Rattle.statements.specs.declared.statement.Statement.{Statement}
use Rattle.statements.specs.declared.statement.Statement.TheVariants as item
use Rattle.statements.specs.IssuerLines.{first_issuer, issuer_named}
use Rattle.racf_workers.specs.Deck.{Met, Turn, told_line, is_refusal, is_failure, counted, refused_line, IsRight}

-- What stands between two lines of a deck, but for the history and the pass.
pub record Giving : Type 0 where
  pub issuing : Issuing
  pub issuer : NamedIssuer
  pub has_refused : Bool
  pub has_failed : Bool

-- before the first line
abbrev pub new_giving : Issuing → Giving
new_giving issuing = record { issuing = issuing; issuer = first_issuer issuing; has_refused = false; has_failed = false }

-- A reply may be lost, where memory runs out before it stands: nothing was accepted then.
abbrev pub may_be_lost : Reply → Bool
may_be_lost (reply.Accepted number) = false
may_be_lost (reply.Refused number why) = true
may_be_lost (reply.Halted number) = false
may_be_lost (reply.DiskFault number) = false
may_be_lost reply.NoMemory = true

abbrev pub turn_at : List ℕ → Giving → (seen : List Event) → Passing → Met → Turn
turn_at text s seen pass met = record { given = given_by s.issuer.id s.issuer.group text; seen = seen; pass = pass; met = met }

-- what stands behind a command that was told this
abbrev pub told_of : Reply → Giving → Giving
told_of told s =
    record { issuing = s.issuing; issuer = s.issuer; has_refused = s.has_refused || is_refusal told; has_failed = s.has_failed || is_failure told }

-- A command was given, and what it was told was gathered.
pub record Commands (base : Position) (text : List ℕ) (seen front : List Event) (pass back : Passing) (old new : Giving) (gathered now : List ℕ) : Type 0 where
  pub met : Met
  pub right : IsRight base (turn_at text old seen pass met)
  pub front_is : front ≡ met.behind
  pub back_is : back ≡ counted met.reply pass
  pub state : new ≡ told_of met.reply old
  pub text_is : now ≡ gathered ++ told_line met.reply

-- A line that is no command was worked: this stands behind it, and this was gathered.
pub record Leaves (state : Giving) (text : List ℕ) (new : Giving) (gathered now : List ℕ) : Type 0 where
  pub state_is : new ≡ state
  pub text_is : now ≡ gathered ++ text

abbrev pub refused_of : Giving → Giving
refused_of s = record { issuing = s.issuing; issuer = s.issuer; has_refused = true; has_failed = s.has_failed }

abbrev pub named_of : NamedIssuer → Giving → Giving
named_of issuer s = record { issuing = s.issuing; issuer = issuer; has_refused = s.has_refused; has_failed = s.has_failed }

abbrev pub Refuses : (base : Position) → Refusal → (seen : List Event) → (old new : Giving) → (gathered now : List ℕ) → Type 0
Refuses base why seen old new gathered now = Leaves (refused_of old) (refused_line base seen why) new gathered now

abbrev pub NamesIssuer : (base : Position) → Result NamedIssuer Refusal → (seen : List Event) → (old new : Giving) → (gathered now : List ℕ) → Type 0
NamesIssuer base (Ok issuer) seen old new gathered now = Leaves (named_of issuer old) [] new gathered now
NamesIssuer base (Err why) seen old new gathered now = Refuses base why seen old new gathered now

-- Such a line leaves what has been seen and what the pass has counted.
abbrev pub Apart : (seen front : List Event) → (pass back : Passing) → Type 0 → Type 0
Apart seen front pass back worked = (front ≡ seen) × (back ≡ pass) × worked

abbrev pub WorksItem : (base : Position) → Statement → (seen front : List Event) → (pass back : Passing) → (old new : Giving) → (gathered now : List ℕ) → Type 0
WorksItem base (item.Command text) seen front pass back old new gathered now = Commands base text seen front pass back old new gathered now
WorksItem base (item.Request text) seen front pass back old new gathered now = Commands base text seen front pass back old new gathered now
WorksItem base (item.Issuer text) seen front pass back old new gathered now = Apart seen front pass back (NamesIssuer base (issuer_named old.issuing text) seen old new gathered now)
WorksItem base item.LineTooLong seen front pass back old new gathered now = Apart seen front pass back (Refuses base refusal.LineTooLong seen old new gathered now)

-- A statement was worked, or a line was skipped.
abbrev pub WorksNext : (base : Position) → Option Statement → (seen front : List Event) → (pass back : Passing) → (old new : Giving) → (gathered now : List ℕ) → Type 0
WorksNext base None seen front pass back old new gathered now = Apart seen front pass back (Leaves old [] new gathered now)
WorksNext base (Some item) seen front pass back old new gathered now = WorksItem base item seen front pass back old new gathered now

-- Memory ran out: nothing was accepted, and nothing more is gathered.
pub record Keeps (pass back : Passing) (old new : Giving) (gathered now : List ℕ) : Type 0 where
  pub back_is : back ≡ pass
  pub state_is : new ≡ old
  pub text_is : now ≡ gathered
