-- What a command meets: what it is told, what becomes of the history, of the pass and of the office.
use Rattle.std.specs.Prelude.{ℕ, ◌≡◌, ◌+◌, ◌%◌, ◌^◌, ◌<◌, ◌≤◌, true, false, List, [], ◌∷◌, ◌++◌, Option, Some, None, is_some, Result, Ok, Err}
use Rattle.racf_outside.specs.Causes.{Rose}
use Rattle.racf_outside.specs.Disk.{History}
use Rattle.command_parser.specs.Canonical.{canonical}
use Rattle.journal_records.specs.declared.record.CommandRecord.{CommandRecord}
use Rattle.desk_rules.specs.declared.refusal.Refusal.{Refusal}
use Rattle.desk_rules.specs.declared.answers.Reply.{Reply}
use Rattle.desk_rules.specs.declared.answers.Reply.TheVariants as reply
use Rattle.desk_rules.specs.Durable.{SameIdle, StaysEither}
use Rattle.desk_rules.specs.Outcome.{outcome}
use Rattle.desk_rules.specs.Position.{Position, position_behind}
use Rattle.command_history.specs.declared.events.Accepted.{Accepted}
use Rattle.command_history.specs.declared.events.Event.{Event}
use Rattle.command_history.specs.declared.events.Event.TheVariants.{Added, Ended}
use Rattle.command_history.specs.Events.{is_ended, failed_of}
use Rattle.command_history.specs.Reached.{reached, record_of}
use Rattle.raclist_snapshots.specs.Publishing.{Seeing}
use Rattle.racroute.specs.declared.waiting.AfterFault.{AfterFault}
use Rattle.racroute.specs.declared.waiting.AfterFault.TheVariants as fault
use Rattle.racroute.specs.Core.{Core, Passing, number_behind}

-- A command as it is given: its issuer's ID, the group that is to be current for him, and the text.
pub record Given : Type 0 where
  pub issuer : List ℕ
  pub group : Option (List ℕ)
  pub text : List ℕ

abbrev pub given_by : List ℕ → Option (List ℕ) → List ℕ → Given
given_by issuer group text = record { issuer = issuer; group = group; text = text }

-- its outcome at the position behind a list of events
abbrev pub outcome_behind : Position → List Event → Given → Result CommandRecord Refusal
outcome_behind base events given = outcome (reached base events) given.issuer given.group given.text

-- The entry of this deck's command: its issuer and its canonical text, from which the command is read again.
pub record IsEntry (deck : ℕ) (command : CommandRecord) (entry : Accepted) : Type 0 where
  pub deck_is : entry.deck ≡ deck
  pub issuer_is : entry.issuer ≡ command.issuer
  pub text_is : entry.text ≡ canonical command.command
  pub record_is : record_of entry ≡ Some command

-- The command was accepted, and its entry is the last of the history; the number counts it, and so does the pass.
pub record SaysAccepted (base : Position) (given : Given) (number : ℕ) (before after : List Event) (pass back : Passing) : Type 0 where
  pub command : CommandRecord
  pub accepted : outcome_behind base before given ≡ Ok command
  pub goes_on : is_ended before ≡ false
  pub entry : Accepted
  pub entry_is : IsEntry pass.deck command entry
  pub added : after ≡ before ++ Added entry ∷ []
  pub counts : number ≡ number_behind base after
  pub counted : back ≡ record pass { commands = pass.commands + 1 }

-- The rules refused it for this where the history led, and nothing is added.
pub record SaysRefused (base : Position) (given : Given) (number : ℕ) (why : Refusal) (before after : List Event) (pass back : Passing) : Type 0 where
  pub refused : outcome_behind base before given ≡ Err why
  pub goes_on : is_ended before ≡ false
  pub same : after ≡ before
  pub counts : number ≡ number_behind base after
  pub kept : back ≡ pass

-- A disk had failed an earlier command: the history has ended so, and nothing is added.
pub record SaysHalted (base : Position) (number : ℕ) (before after : List Event) (pass back : Passing) : Type 0 where
  pub ended : is_some (failed_of before) ≡ true
  pub same : after ≡ before
  pub counts : number ≡ number_behind base after
  pub kept : back ≡ pass

-- A disk failed this command, which the rules accept: the history ends, and its final mark names the command's entry;
-- the pass counts the fault.
pub record SaysFailed (base : Position) (given : Given) (number : ℕ) (before after : List Event) (pass back : Passing) : Type 0 where
  pub command : CommandRecord
  pub accepted : outcome_behind base before given ≡ Ok command
  pub goes_on : is_ended before ≡ false
  pub entry : Accepted
  pub entry_is : IsEntry pass.deck command entry
  pub ended : after ≡ before ++ Ended (Some entry) ∷ []
  pub counts : number ≡ number_behind base after
  pub counted : back ≡ record pass { faults = pass.faults + 1 }

-- Memory was wanting, and nothing has changed.
pub record SaysNothing (before after : List Event) (pass back : Passing) : Type 0 where
  pub same : after ≡ before
  pub kept : back ≡ pass

-- What a command that is given with a pass is told, where one list of events was before it and another is behind it.
abbrev pub Says : Position → Given → Reply → (before after : List Event) → (pass back : Passing) → Type 0
Says base given (reply.Accepted number) before after pass back = SaysAccepted base given number before after pass back
Says base given (reply.Refused number why) before after pass back = SaysRefused base given number why before after pass back
Says base given (reply.Halted number) before after pass back = SaysHalted base number before after pass back
Says base given (reply.DiskFault number) before after pass back = SaysFailed base given number before after pass back
Says base given reply.NoMemory before after pass back = SaysNothing before after pass back

-- The office goes on behind an accepted command. At every moment of it a crash left what stands for where the history
-- led before, or for where it leads now.
pub record GoesOn {D : Type 0} (base : Position) (tells : D → Option History) (faults : D → ℕ) (old new : Core D) : Type 0 where
  pub ran : is_some old.doubt ≡ false
  pub runs : is_some new.doubt ≡ false
  pub moments : StaysEither tells old.store new.store (reached base old.events) (reached base new.events)
  pub idle : SameIdle old.store new.store
  pub no_fewer : faults old.store.journal.disk ≤ faults new.store.journal.disk
  pub passes : new.passes ≡ old.passes
  pub decks : new.decks ≡ old.decks

-- It stops behind a command that a disk failed, whose count of faults has risen. The final mark names the command's entry,
-- which the office keeps. At every moment of it a crash left what stands for where the history leads, or for the position
-- behind that command.
pub record Stops {D : Type 0} (base : Position) (tells : D → Option History) (faults : D → ℕ) (old new : Core D) : Type 0 where
  pub ran : is_some old.doubt ≡ false
  pub doubt : Accepted
  pub halts : new.doubt ≡ Some doubt
  pub named : failed_of new.events ≡ Some doubt
  pub command : CommandRecord
  pub record_is : record_of doubt ≡ Some command
  pub moments : StaysEither tells old.store new.store (reached base old.events) (position_behind (reached base old.events) command)
  pub position : new.position ≡ old.position
  pub idle : SameIdle old.store new.store
  pub no_fewer : faults old.store.journal.disk ≤ faults new.store.journal.disk
  pub rose : Rose (faults old.store.journal.disk) (faults new.store.journal.disk)
  pub passes : new.passes ≡ old.passes
  pub decks : new.decks ≡ old.decks

-- What a command that was told this leaves of the office.
abbrev pub Leaves : {D : Type 0} → (base : Position) → (tells : D → Option History) → (faults : D → ℕ) → Reply → (old new : Core D) → Type 0
Leaves base tells faults (reply.Accepted number) old new = GoesOn base tells faults old new
Leaves base tells faults (reply.Refused number why) old new = (is_some old.doubt ≡ false) × (new ≡ old)
Leaves base tells faults (reply.Halted number) old new = (is_some old.doubt ≡ true) × (new ≡ old)
Leaves base tells faults (reply.DiskFault number) old new = Stops base tells faults old new
Leaves base tells faults reply.NoMemory old new = new ≡ old

-- The note beside a reply: what the history is then, with every reply but want of memory.
abbrev pub IsNoted : Reply → Option (List Event) → List Event → Type 0
IsNoted reply.NoMemory note events = note ≡ None
IsNoted told note events = note ≡ Some events

-- How many notes the caller has learned then, modulo 2^64: one more, with every reply but want of memory.
abbrev pub Learns : Reply → (old new : ℕ) → Type 0
Learns reply.NoMemory old new = new ≡ old
Learns told old new = new ≡ (old + 1) % 2 ^ 64

-- Why so many commands aren't there: the history has ended at fewer, and the caller has seen that; or memory is wanting
-- for a note, and the caller is as before.
abbrev pub IsAmiss : Position → (number : ℕ) → AfterFault → (old new : Seeing) → Type 0
IsAmiss base number (fault.Final last) old new =
    (last < number) × (last ≡ number_behind base new.events) × (is_ended new.events ≡ true) × (new.learned ≡ (old.learned + 1) % 2 ^ 64)
IsAmiss base number fault.NoMemory old new = new ≡ old

-- Where memory was wanting, what was asked is as it was.
abbrev pub StaysFor : {T : Type 0} → AfterFault → T → T → Type 0
StaysFor (fault.Final last) old new = Unit {0}
StaysFor fault.NoMemory old new = new ≡ old
