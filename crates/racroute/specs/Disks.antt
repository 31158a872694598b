-- What the disks of an office keep.
use Rattle.std.specs.Prelude.{ℕ, ◌≡◌, ◌⊎◌, List, Option, Some, None, Ok}
use mathlib.Core.List.{IsPrefix}
use Rattle.racf_outside.specs.Crashes.{StaysIn}
use Rattle.racf_outside.specs.Disk.{History}
use Rattle.journal_records.specs.declared.record.CommandRecord.{CommandRecord}
use Rattle.desk_rules.specs.Durable.{IdleDisk, BesideIdle, LeavesBoth}
use Rattle.desk_rules.specs.Outcome.{outcome}
use Rattle.desk_rules.specs.Position.{Position, position_behind}
use Rattle.desk_rules.specs.Recovery.{StandsFor, StandsForEither}
use Rattle.command_history.specs.declared.events.Accepted.{Accepted}
use Rattle.command_history.specs.declared.events.Event.{Event}
use Rattle.command_history.specs.Events.{failed_of}
use Rattle.command_history.specs.Reached.{reached, record_of}

-- A disk failed the command of this entry at this position. Whatever a crash now leaves of both disks stands for the
-- position, or for the one behind that command, which the rules accept there.
pub record IsInDoubt (first second : Option History) (position : Position) (doubt : Accepted) : Type 0 where
  pub id : List ℕ
  pub group : Option (List ℕ)
  pub text : List ℕ
  pub command : CommandRecord
  pub record_is : record_of doubt ≡ Some command
  pub accepted : outcome position id group text ≡ Ok command
  pub either : LeavesBoth first second (StandsForEither position (position_behind position command))

-- Whatever a crash now leaves of both disks stands for this position, or for one command more where a disk failed it:
-- that of this entry.
abbrev pub StandAt : (doubt : Option Accepted) → (first second : Option History) → Position → Type 0
StandAt None first second position = LeavesBoth first second (StandsFor position)
StandAt (Some doubt) first second position = IsInDoubt first second position doubt

-- Two files stand for where some beginning of a history leads.
pub record StandForBeginning (base : Position) (events : List Event) (first second : List ℕ) : Type 0 where
  pub beginning : List Event
  pub begins : IsPrefix beginning events
  pub stand : StandsFor (reached base beginning) first second

-- The history has ended because a disk failed a command, whose entry its final mark names, and which the rules accept
-- where the history leads: two files stand for the position behind that command.
pub record StandForFailed (base : Position) (events : List Event) (first second : List ℕ) : Type 0 where
  pub doubt : Accepted
  pub failed : failed_of events ≡ Some doubt
  pub id : List ℕ
  pub group : Option (List ℕ)
  pub text : List ℕ
  pub command : CommandRecord
  pub record_is : record_of doubt ≡ Some command
  pub accepted : outcome (reached base events) id group text ≡ Ok command
  pub stand : StandsFor (position_behind (reached base events) command) first second

-- Two files stand for some beginning of a history, or for one command more where a disk failed it.
abbrev pub StandAlong : (base : Position) → List Event → (first second : List ℕ) → Type 0
StandAlong base events first second = StandForBeginning base events first second ⊎ StandForFailed base events first second

-- At every moment from where a history begins a crash leaves what stands along it. The disk that doesn't count stays as
-- it is.
abbrev pub StaysAlong : (base : Position) → List Event → IdleDisk → (old new : Option History) → Type 0
StaysAlong base events idle old new = StaysIn (BesideIdle idle (StandAlong base events)) old new
