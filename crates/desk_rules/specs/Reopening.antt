-- What an opening finds, by the commands that led there.
use Rattle.std.specs.Prelude.{◌≡◌, ℕ, List, Option, Ok, map}
use Rattle.journal_records.specs.declared.record.CommandRecord.{CommandRecord}
use Rattle.journal_records.specs.Reading.{record_of}
use Rattle.checkpoint_disks.specs.Files.{CheckpointRead}
use Rattle.racf_checkpoint.specs.Contents.{Says}
use Rattle.desk_rules.specs.Outcome.{outcome}
use Rattle.desk_rules.specs.Position.{Position, restarted}
use Rattle.desk_rules.specs.Recovery.{base_of}
use Rattle.desk_rules.specs.History.{at, IsLegal, HadRoom}

-- The records are those of a history that is legal from the base on, with room in the journal for each, and the position
-- is the one behind it, as far as it outlives a restart. A desk that is opened there goes on as the one that ran: a
-- command has the same outcome at both, and behind the same commands both are opened again as the same.
pub record IsReopened (base : Position) (records : List (List ℕ)) (position : Position) : Type 0 where
  pub history : List CommandRecord
  pub legal : IsLegal base history
  pub room : HadRoom base history
  pub spelled : map record_of records ≡ map Ok history
  pub behind : position ≡ restarted (at base history)
  pub outcomes : (id : List ℕ) (group : Option (List ℕ)) (text : List ℕ) → outcome position id group text ≡ outcome (at base history) id group text
  pub later : (more : List CommandRecord) → restarted (at position more) ≡ restarted (at (at base history) more)

-- Two files say a checkpoint, from which the records behind it lead to a position so.
abbrev pub LeadOn : Position → (first second : List ℕ) → Type 0
LeadOn position first second = (kept : CheckpointRead) × Says kept first second × IsReopened (base_of kept) kept.records position
