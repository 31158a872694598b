-- How an office is kept, and its shares.
use Rattle.std.specs.Prelude.{ℕ, ◌≡◌, ◌≤◌, true, false, List, length, Option, is_some, Ok, if◌then◌else◌}
use Rattle.racf_outside.specs.Causes.{Rose}
use Rattle.racf_outside.specs.Disk.{History}
use Rattle.checkpoint_disks.specs.declared.counting.Side.TheVariants.{First, Second}
use Rattle.racf_checkpoint.specs.Stored.{disk_on}
use Rattle.desk_rules.specs.declared.answers.Ready.{Ready}
use Rattle.desk_rules.specs.Durable.{IdleDisk, idle_of}
use Rattle.desk_rules.specs.Made.{made_in, made_of_outcome}
use Rattle.desk_rules.specs.Position.{Position}
use Rattle.command_history.specs.declared.events.Accepted.{Accepted}
use Rattle.command_history.specs.declared.events.Event.{Event}
use Rattle.command_history.specs.Events.{entries_of, is_ended}
use Rattle.command_history.specs.Reached.{reached, AreLegal}
use Rattle.raclist_snapshots.specs.Publishing.{MarkIs}
use Rattle.racroute.specs.Core.{Core}
use Rattle.racroute.specs.Disks.{StandAt, StaysAlong}
use Rattle.racroute.specs.Replies.{Given, outcome_behind}

-- how many disk faults there were: one, where a disk failed a command, since no command is taken behind it
abbrev pub fault_count : (doubt : Option Accepted) → ℕ
fault_count doubt = if is_some doubt then 1 else 0

-- The disks of an office where its history begins: how many faults had been counted of the one that counts and of the
-- other, what the former told, and what is told of the latter.
pub record DisksBefore : Type 0 where
  pub faults : ℕ
  pub idle_faults : ℕ
  pub live : Option History
  pub idle : IdleDisk

abbrev pub disks_before : (faults idle_faults : ℕ) → Option History → IdleDisk → DisksBefore
disks_before faults idle_faults live idle = record { faults = faults; idle_faults = idle_faults; live = live; idle = idle }

-- The database is where the history leads, and the entries that are kept are those of the history. The ledgers count
-- what there is: `commands`, `faults` and `out` are their totals. The final mark is there where a disk failed a
-- command, whose entry it names, and else only where no pass is out. A crash now leaves what stands for where the desk
-- stands, or for the command in doubt too; and at every moment since the history began it left what stands along it.
pub record IsOffice {D : Type 0} (tells : D → Option History) (counted : D → ℕ) (base : Position) (before : DisksBefore) (core : Core D) (history : List Accepted)
    (commands faults out : ℕ) : Type 0 where
  pub position : core.position ≡ reached base core.events
  pub legal : AreLegal base (entries_of core.events)
  pub entries_are : history ≡ entries_of core.events
  pub commands_are : commands ≡ length history
  pub faults_are : faults ≡ fault_count core.doubt
  pub passes_are : out ≡ core.passes
  pub mark : MarkIs core.doubt core.events
  pub halted : is_some core.doubt ≡ true → is_ended core.events ≡ true
  pub ended : is_ended core.events ≡ true → is_some core.doubt ≡ false → core.passes ≡ 0
  pub no_fewer : before.faults ≤ counted core.store.journal.disk
  pub rose : is_some core.doubt ≡ true → Rose before.faults (counted core.store.journal.disk)
  pub stand : StandAt core.doubt (tells (disk_on First core.store)) (tells (disk_on Second core.store)) core.position
  pub moments : StaysAlong base core.events before.idle before.live (tells core.store.journal.disk)
  pub idle : idle_of tells core.store ≡ before.idle
  pub idle_faults : counted core.store.idle ≡ before.idle_faults

-- It was made of a command that is given where these events lead.
pub record IsMade (base : Position) (events : List Event) (ready : Ready) : Type 0 where
  pub given : Given
  pub made : made_of_outcome (reached base events).image (outcome_behind base events given) ≡ Ok (made_in ready)

-- The entry of what was made, with this deck's number.
pub record IsMadeEntry (deck : ℕ) (ready : Ready) (entry : Accepted) : Type 0 where
  pub deck_is : entry.deck ≡ deck
  pub issuer_is : entry.issuer ≡ ready.issuer
  pub text_is : entry.text ≡ ready.text
