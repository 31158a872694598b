-- What the worker of a deck, and that of a request file, leaves in a run whose history is known whole.
use Rattle.std.specs.Prelude.{◌≡◌, ◌≢◌, ◌≤◌, ◌<◌, ◌+◌, ℕ, nat_eq, true, List, [], ◌∷◌, ◌++◌, length, Option, Some, IfSome, is_some, if◌then◌else◌}
use Rattle.racf_outside.specs.Causes.{Rose}
use Rattle.desk_rules.specs.Position.{Position}
use Rattle.desk_rules.specs.declared.answers.Reply.{Reply}
use Rattle.desk_rules.specs.declared.answers.Reply.TheVariants as reply
use Rattle.command_history.specs.declared.events.Accepted.{Accepted}
use Rattle.command_history.specs.declared.events.Event.{Event}
use Rattle.command_history.specs.declared.events.Event.TheVariants.{Ended}
use Rattle.command_history.specs.Events.{entries_of, failed_of, Extends}
use Rattle.racroute.specs.Core.{Passing}
use Rattle.statements.specs.declared.issuer.Issuing.{Issuing}
use Rattle.statements.specs.declared.status.Status.{Status}
use Rattle.statements.specs.declared.status.Status.TheVariants as statuses
use Rattle.statements.specs.Runs.{after, longest_input}
use Rattle.statements.specs.Status.{code_of}
use Rattle.racf_workers.specs.Deck.{DeckState, Turn, new_deck, deck_machine, Gives}
use Rattle.racf_workers.specs.RequestFile.{Answers}

-- ---- the entries of a deck

-- those of a list that have this deck's number, in their order
abbrev pub entries_by : (deck : ℕ) → List Accepted → List Accepted
entries_by deck [] = []
entries_by deck (entry ∷ entries) = if nat_eq entry.deck deck then entry ∷ entries_by deck entries else entries_by deck entries

-- the last entry alone
abbrev pub last_of : List Accepted → List Accepted
last_of [] = []
last_of (entry ∷ []) = entry ∷ []
last_of (entry ∷ other ∷ entries) = last_of (other ∷ entries)

-- The entries that a deck's commands made: behind each that was accepted it is the last.
abbrev pub made_by : Reply → (behind : List Event) → List Accepted
made_by (reply.Accepted number) behind = last_of (entries_of behind)
made_by told behind = []

abbrev pub made_in : List Turn → List Accepted
made_in [] = []
made_in (turn ∷ turns) = made_by turn.met.reply turn.met.behind ++ made_in turns

-- how many of its commands a disk failed, each of which prints DISKFAULT
abbrev pub fault_of : Reply → ℕ
fault_of (reply.DiskFault number) = 1
fault_of told = 0

abbrev pub faults_in : List Turn → ℕ
faults_in [] = 0
faults_in (turn ∷ turns) = fault_of turn.met.reply + faults_in turns

-- A command that was told so, of a deck in a run whose history is `whole`. One that a disk failed is the one in doubt: the
-- history ended there, with its entry, which is this deck's, and the whole names no other.
abbrev pub IsDoubted : (deck : ℕ) → (whole : List Event) → Reply → (before behind : List Event) → Type 0
IsDoubted deck whole (reply.DiskFault number) before behind =
    (entry : Accepted) × (entry.deck ≡ deck) × (behind ≡ before ++ Ended (Some entry) ∷ []) × (failed_of whole ≡ Some entry)
IsDoubted deck whole told before behind = Unit {0}

abbrev pub AreDoubted : (deck : ℕ) → (whole : List Event) → List Turn → Type 0
AreDoubted deck whole [] = Unit {0}
AreDoubted deck whole (turn ∷ turns) =
    IsDoubted deck whole turn.met.reply turn.met.before turn.met.behind × AreDoubted deck whole turns

-- ---- one worker

-- a pass that nothing was done with
abbrev pub new_pass : (deck : ℕ) → Passing
new_pass deck = record { deck = deck; commands = 0; faults = 0 }

-- what stands behind the lines of a deck whose output is so
abbrev pub state_of : {base : Position} → {issuing : Issuing} → {before after_it : List Event} → {pass back : Passing} → {read_failed write_failed : Type 0} → {status : Status} → {source left sunk now : Option (List ℕ)}
    → Gives base issuing before after_it pass back read_failed write_failed status source left sunk now → DeckState
state_of {base} {issuing} {before} {pass = pass} gives = after (deck_machine base issuing before pass gives.schedule) gives.ran.worked (new_deck issuing before pass gives.schedule)

-- The worker of this deck, in a run whose history is `whole`: `read_failed` and `write_failed` say that its source, or
-- its sink, failed. Its output is what its commands were told, each behind some list that extends what its caller had
-- seen then, and what the caller saw is a beginning of the whole. The deck's entries are exactly those of its accepted
-- commands. So many of its lines say DISKFAULT, of commands that are in doubt, and one that says so, or HALTED, stands only
-- where a disk has failed a command; the status of one that says DISKFAULT tells it, or is greater.
pub record DeckRan (base : Position) (issuing : Issuing) (whole : List Event) (deck faults : ℕ) (read_failed write_failed : Type 0) (status : Status) (source left sunk now : Option (List ℕ)) : Type 0 where
  pub seen : List Event
  pub back : Passing
  pub gives : Gives base issuing [] seen (new_pass deck) back read_failed write_failed status source left sunk now
  pub later : Extends seen whole
  pub own : entries_by deck (entries_of whole) ≡ made_in (state_of gives).turns
  pub counted : faults_in (state_of gives).turns ≡ faults
  pub doubted : AreDoubted deck whole (state_of gives).turns
  pub failed : (state_of gives).has_failed ≡ true → is_some (failed_of whole) ≡ true
  pub told : 0 < faults → 20 ≤ code_of status

-- The worker of a request file in such a run. Its output is what its lines print, each answered at some front of the
-- history that its caller had seen then; the fronts only grow, and are beginnings of the whole.
pub record FileRan (base : Position) (whole : List Event) (read_failed write_failed : Type 0) (status : Status) (source left sunk now : Option (List ℕ)) : Type 0 where
  pub seen : List Event
  pub answers : Answers base [] seen read_failed write_failed status source left sunk now
  pub later : Extends seen whole

-- A worker stops before the end of its input only for a fault of its own source or sink, whose counts were `reads` and
-- `writes` and are `reads_now` and `writes_now`; or since its input is too long; or for want of memory.
pub record StopsFor (status : Status) (source : Option (List ℕ)) (reads reads_now writes writes_now : ℕ) : Type 0 where
  pub usage : status ≢ statuses.Usage
  pub formatted : status ≢ statuses.NotFormatted
  pub undamaged : (place : ℕ) → status ≢ statuses.Damaged place
  pub read_fault : status ≡ statuses.ReadFault → Rose reads reads_now
  pub write_fault : status ≡ statuses.WriteFault → Rose writes writes_now
  pub too_long : status ≡ statuses.InputTooLong → IfSome source (λ bytes. longest_input < length bytes)
  pub no_fewer_reads : reads ≤ reads_now
  pub no_fewer_writes : writes ≤ writes_now
