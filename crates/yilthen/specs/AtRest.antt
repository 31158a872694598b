-- What contracts see of a desk between two calls, and what stays as it was behind a command that isn't accepted.
use Rattle.std.specs.Prelude.{◌≡◌, ℕ, Bool, true, false, None, Result, Ok, Err}
use Rattle.racf_checkpoint.specs.Stored.{StoreOn}
use Rattle.desk_rules.specs.Position.{Position}
use Rattle.desk_rules.specs.Made.{DeskOn}
use Rattle.yilthen.specs.declared.error.Error.{Error}
use Rattle.yilthen.specs.declared.error.Error.TheVariants as error

-- Its position; its disks, with the store on them; and whether a disk failed a command.
pub record AtRest (D : Type 0) : Type 0 where
  pub position : Position
  pub store : StoreOn D
  pub halted : Bool

abbrev pub at_rest : {D : Type 0} → DeskOn D → AtRest D
at_rest desk = record { position = desk.position; store = desk.store; halted = desk.halted }

-- Nothing is made there, and so nothing is committed that isn't installed.
pub record NothingWaits {D : Type 0} (desk : DeskOn D) : Type 0 where
  pub made : desk.made ≡ None
  pub settled : desk.committed ≡ false

-- no disk has failed
abbrev pub running : {D : Type 0} → Position → StoreOn D → AtRest D
running position store = record { position = position; store = store; halted = false }

-- Behind a refusal, at a desk that takes no more, and for want of memory a desk is as it was: its store and its disks
-- too.
abbrev pub KeepsDesk : {D : Type 0} → (old new : AtRest D) → Result ℕ Error → Type 0
KeepsDesk old new (Ok number) = Unit {0}
KeepsDesk old new (Err error.DiskFault) = Unit {0}
KeepsDesk old new (Err why) = new ≡ old

-- A compaction that fails: at a desk that takes no more, and for want of memory, the desk is as it was; where a disk failed,
-- it is halted where it stood.
abbrev pub FailsToCompact : {D : Type 0} → (old new : AtRest D) → Error → Type 0
FailsToCompact old new error.Halted = (old.halted ≡ true) × (new ≡ old)
FailsToCompact old new error.NoMemory = (old.halted ≡ false) × (new ≡ old)
FailsToCompact old new error.DiskFault = (old.halted ≡ false) × (new ≡ record old { store = new.store; halted = true })
FailsToCompact old new why = ⊥
