-- How a desk is kept: its image, what was made last, as contracts alone see it, and its disks.
use Rattle.std.specs.Prelude.{◌≡◌, ◌+◌, ◌≤◌, ◌^◌, true, false, length, Option, Some, MatchOption, IsSome}
use Rattle.std.specs.Option.{option_map}
use Rattle.std.specs.Arc.{arc_value}
use Rattle.racf_outside.specs.Disk.{History}
use Rattle.racf_profiles.specs.Edits.{changed}
use Rattle.racf_journal.specs.Reading.{IsRecord}
use Rattle.checkpoint_disks.specs.Files.{CheckpointRead}
use Rattle.checkpoint_disks.specs.Compacting.{IsCheckpoint}
use Rattle.racf_checkpoint.specs.Contents.{and_record}
use Rattle.racf_database.specs.Contents.{Contents as Database}
use Rattle.racf_desk.specs.declared.desk.Desk.TheInside.{Inside}
use Rattle.desk_rules.specs.Images.{IsImageOf}
use Rattle.desk_rules.specs.Position.{Position}
use Rattle.desk_rules.specs.Made.{Made, DeskOn, made_in, installed}
use Rattle.desk_rules.specs.Durable.{LeadTo, StandsThere, stands_at}

abbrev pub contents_of : {D : Type 0} → Inside D → DeskOn D
contents_of desk =
    record {
      position = record { image = arc_value desk.image; gate = desk.gate };
      store = desk.store;
      halted = desk.halted;
      made = option_map (λ snapshot. made_in snapshot.value) desk.made;
      committed = desk.committed;
    }

-- Its edits are those that the database has prepared, its image is that of the rows behind them, and its record leads
-- on from the position and has room in the journal.
pub record IsReady (database : Database) (position : Position) (made : Made) : Type 0 where
  pub prepared : database.prepared ≡ Some made.change
  pub image : IsImageOf (changed made.change.edits database.rows) made.behind
  pub leads : (kept : CheckpointRead) → IsCheckpoint kept → LeadTo position kept → LeadTo (installed position made) (and_record kept made.entry)
  pub whole : IsRecord made.entry
  pub short : length made.entry ≤ 30020
  pub fits : (position.gate + 1) + (length made.entry + 1) ≤ 2 ^ 28

-- Unless a disk failed, the disks stand at the position, or at the one behind what is committed.
pub record IsKept {D : Type 0} (tells : D → Option History) (desk : Inside D) : Type 0 where
  pub image : IsImageOf desk.database.rows (arc_value desk.image)
  pub made : MatchOption (contents_of desk).made (Unit {0}) (IsReady desk.database (contents_of desk).position)
  pub stands : desk.halted ≡ false → StandsThere tells desk.store (stands_at desk.committed (contents_of desk).made (contents_of desk).position)
  pub committed : desk.committed ≡ true → (desk.halted ≡ false) × IsSome desk.made
