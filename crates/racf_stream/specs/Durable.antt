-- A stream whose desk stands on disks: what its statements do to them, and what every crash leaves.
use Rattle.std.specs.Prelude.{◌≡◌, ◌⊎◌, ◌++◌, ◌∷◌, [], ◌+◌, ◌≤◌, ℕ, Bool, true, false, Option, None, Some, List, Ok, if◌then◌else◌}
use Rattle.std.specs.Io.KnownBytes.{prepend_known}
use Rattle.racf_outside.specs.Causes.{Rose}
use Rattle.racf_outside.specs.Crashes.{Leaves, StaysIn}
use Rattle.racf_outside.specs.Disk.{History, Now}
use Rattle.racf_checkpoint.specs.Stored.{StoreOn}
use Rattle.desk_rules.specs.Durable.{SameIdle, idle_of, BesideIdle, StaysEither}
use Rattle.desk_rules.specs.Made.{Made, DeskOn, installed}
use Rattle.desk_rules.specs.Position.{Position, position_behind}
use Rattle.desk_rules.specs.Recovery.{StandsFor, StandsForEither}
use Rattle.journal_records.specs.declared.record.CommandRecord.{CommandRecord}
use Rattle.request_files.specs.declared.acees.NamedAcee.{NamedAcee}
use Rattle.request_files.specs.declared.issuer_line.NamedIssuer.{NamedIssuer}
use Rattle.statements.specs.declared.issuer.Issuing.{Issuing}
use Rattle.statements.specs.declared.reply.Reply.TheVariants.{Accepted, DiskFault}
use Rattle.statements.specs.declared.statement.Statement.{Statement}
use Rattle.statements.specs.declared.statement.Statement.TheVariants.{Command}
use Rattle.statements.specs.Replies.{reply_line}
use Rattle.statements.specs.Runs.{BeginsWith, after}
use Rattle.racf_stream.specs.Script.{stream, fault_at}
use Rattle.statements.specs.Inputs.{statements}
use Rattle.racf_stream.specs.Stream.{State, Answer, number_of, outcome_of, new_stream, answer, text}

-- The state of a stream, and the store that its desk stands on.
pub record StreamOn (D : Type 0) : Type 0 where
  pub state : State
  pub store : StoreOn D

abbrev pub stream_on : {D : Type 0} → DeskOn D → Issuing → NamedIssuer → Bool → List NamedAcee → StreamOn D
stream_on desk issuing issuer has_refused acees =
    record {
      state = record { position = desk.position; issuing = issuing; issuer = issuer; has_refused = has_refused; acees = acees; halted = desk.halted };
      store = desk.store;
    }

-- A desk stands where the stream does.
pub record StandsIn {D : Type 0} (desk : DeskOn D) (s : StreamOn D) : Type 0 where
  pub position : desk.position ≡ s.state.position
  pub halted : desk.halted ≡ s.state.halted
  pub settled : desk.committed ≡ false
  pub store : desk.store ≡ s.store

-- where a disk failed, as the state tells
abbrev pub fault_in : {D : Type 0} → StreamOn D → Option ℕ
fault_in s = fault_at s.state.halted (number_of s.state)

-- What a call did is this answer: the state is its state, and its text was written.
pub record DoesOn {D : Type 0} (answer : State → Answer) (s t : StreamOn D) (old new : List ℕ) : Type 0 where
  pub left : t.state ≡ (answer s.state).state
  pub wrote : new ≡ old ++ (answer s.state).text

-- The desk is as it was.
pub record Stays {D : Type 0} (s t : StreamOn D) : Type 0 where
  pub store : t.store ≡ s.store
  pub halted : t.state.halted ≡ s.state.halted

-- What a statement does to the disks: nothing; or it is one at a desk that isn't halted, and at every moment a crash
-- leaves what stands for the position before it, or for the one behind it where no disk fails. A disk is said to have
-- failed only where its count rose.
pub record Moves {D : Type 0} (tells : D → Option History) (faults : D → ℕ) (item : Statement) (s t : StreamOn D) : Type 0 where
  pub moments : (t.store ≡ s.store)
      ⊎ ((s.state.halted ≡ false) × StaysEither tells s.store t.store s.state.position (answer None item s.state).state.position)
  pub idle : SameIdle s.store t.store
  pub cause : s.state.halted ≡ false → t.state.halted ≡ true → Rose (faults s.store.journal.disk) (faults t.store.journal.disk)
  pub no_fewer : faults s.store.journal.disk ≤ faults t.store.journal.disk

-- A disk failed a statement: it is a command that is accepted where the stream stands, and at every moment a crash leaves
-- what stands for the position before it or for the one behind it.
pub record Fails {D : Type 0} (tells : D → Option History) (item : Statement) (s t : StreamOn D) : Type 0 where
  pub line : List ℕ
  pub is_command : item ≡ Command line
  pub accepted : CommandRecord
  pub outcome : outcome_of line s.state ≡ Ok accepted
  pub stays : t.state.position ≡ s.state.position
  pub moments : StaysEither tells s.store t.store s.state.position (position_behind s.state.position accepted)

-- What a statement does to them, where there is one.
abbrev pub MovesBy : {D : Type 0} → (tells : D → Option History) → (faults : D → ℕ) → Option Statement → (s t : StreamOn D) → Type 0
MovesBy tells faults None s t = t ≡ s
MovesBy tells faults (Some item) s t = Moves tells faults item s t

-- A command that was made is committed and installed, or a disk failed it; and that is told.
pub record Settles {D : Type 0} (tells : D → Option History) (desk now : DeskOn D) (made : Made) (old new : List ℕ) : Type 0 where
  pub done : ((now ≡ record { position = installed desk.position made; store = now.store; halted = false; made = None; committed = false }) × (new ≡ old ++ reply_line made.number Accepted))
      ⊎ ((now ≡ record desk { store = now.store; halted = true }) × (new ≡ old ++ reply_line desk.position.image.generation DiskFault))
  pub moments : StaysEither tells desk.store now.store desk.position (installed desk.position made)
  pub idle : SameIdle desk.store now.store

-- How many commands a crash may leave: those that were accepted and, where a disk failed one, that one too.
abbrev pub most_left : (halted : Bool) → (number : ℕ) → ℕ
most_left halted number = if halted then number + 1 else number

abbrev pub most_left_of : State → ℕ
most_left_of s = most_left s.halted (number_of s)

-- Two files stand for the position behind the first statements of an input, whichever these are: no more than this many
-- commands were accepted there.
pub record StandsForFront (issuing : Issuing) (base : Position) (source : Option (List ℕ)) (most : ℕ) (first second : List ℕ) : Type 0 where
  pub read : List ℕ
  pub more : Option (List ℕ)
  pub given : source ≡ prepend_known read more
  pub done : List Statement
  pub begins : BeginsWith statements read more done
  pub stands : StandsFor (after (stream None issuing base) done (new_stream issuing base)).position first second
  pub within : number_of (after (stream None issuing base) done (new_stream issuing base)) ≤ most

-- At every moment of a stream from that input, from a base on, a crash leaves what stands for the position behind some
-- front of its statements, with no more than this many commands accepted. The disk that doesn't count stays as it is.
abbrev pub StaysAlong : {D : Type 0} → (tells : D → Option History) → Issuing → (base : Position) → (source : Option (List ℕ)) → (most : ℕ) → (old new : StoreOn D) → Type 0
StaysAlong tells issuing base source most old new =
    StaysIn (BesideIdle (idle_of tells old) (StandsForFront issuing base source most)) (tells old.journal.disk) (tells new.journal.disk)

-- The command of an input, from a base on, that a disk failed, and the position behind it: it is accepted behind these
-- statements, which lead to this position, and it is told DISKFAULT.
pub record CommandInDoubt (issuing : Issuing) (base : Position) (source : Option (List ℕ)) (position next : Position) : Type 0 where
  pub read : List ℕ
  pub more : Option (List ℕ)
  pub given : source ≡ prepend_known read more
  pub done : List Statement
  pub line : List ℕ
  pub begins : BeginsWith statements read more (done ++ Command line ∷ [])
  pub before : State
  pub before_is : before ≡ after (stream None issuing base) done (new_stream issuing base)
  pub position_is : position ≡ before.position
  pub accepted : CommandRecord
  pub outcome : outcome_of line before ≡ Ok accepted
  pub told : text (Some (number_of before)) (Command line) before ≡ reply_line (number_of before) DiskFault
  pub next_is : next ≡ position_behind position accepted

-- Whatever a crash now leaves of both disks stands for the one position or for the other.
abbrev pub LeavesEither : {D : Type 0} → (tells : D → Option History) → StoreOn D → (position next : Position) → Type 0
LeavesEither tells store position next =
    Now (tells store.journal.disk) (Leaves (BesideIdle (idle_of tells store) (StandsForEither position next)))

-- Behind a disk that failed: a crash leaves what stands for the position of the accepted commands, or for the one behind
-- these and the command that was told DISKFAULT.
pub record LeavesInDoubt {D : Type 0} (tells : D → Option History) (issuing : Issuing) (base : Position) (source : Option (List ℕ)) (store : StoreOn D) (position : Position) : Type 0 where
  pub next : Position
  pub in_doubt : CommandInDoubt issuing base source position next
  pub leaves : LeavesEither tells store position next
