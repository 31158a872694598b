-- Where a desk stands, and where it stands behind a command. A position is the number of the commands that were
-- accepted so far, the state that they led to, as an image of it shows them, and where the journal's last gate is.
use Rattle.std.specs.Prelude.{ℕ, ◌+◌, List, length, Result, Ok, Err}
use Rattle.racf_profiles.specs.State.{State, ListedCopy, restart, changed_state}
use Rattle.racf_profiles.specs.declared.rows.Rows.{Rows}
use Rattle.racf_profiles.specs.NewDatabase.{new_database}
use Rattle.database_image.specs.Image.{image_of}
use Rattle.command_fields.specs.declared.fields.CommandFields.{CommandFields}
use Rattle.command_fields.specs.declared.fields.CommandFields.TheVariants as fields
use Rattle.command_rules.specs.Effects.{step}
use Rattle.command_rules.specs.Edits.{edits_of_set_ropts, edits_of_r_delete}
use Rattle.raclist_image.specs.Imaged.{Imaged}
use Rattle.journal_records.specs.declared.record.CommandRecord.{CommandRecord}
use Rattle.journal_records.specs.Spelling.{spelled}
use Rattle.desk_rules.specs.declared.refusal.Refusal.{Refusal}

-- The journal's file ends behind the gate.
pub record Position : Type 0 where
  pub image : Imaged
  pub gate : ℕ

-- That of a checkpoint of these rows, which so many commands led to: its journal, whose first gate is there, has no
-- records.
abbrev pub at_checkpoint : Rows → (number start : ℕ) → Position
at_checkpoint rows number start = record { image = record { state = restart rows; generation = number }; gate = start }

-- Where the journal begins behind the image of these rows.
abbrev pub start_behind : Rows → ℕ
start_behind rows = 33 + length (image_of rows)

-- That of a new database.
abbrev pub first_position : Position
first_position = at_checkpoint new_database 0 (start_behind new_database)

-- Where a checkpoint of its rows is written: the journal has no records, and nothing else is changed.
abbrev pub compacted : Position → Position
compacted position = record { image = position.image; gate = start_behind position.image.state.rows }

-- The listed copies behind a command: SETROPTS makes and drops them by its edits, RDELETE drops that of a class which it
-- takes away, and no other command touches one.
abbrev pub copies_behind : CommandFields → State → List ListedCopy
copies_behind (fields.SetRopts c) state = (changed_state (edits_of_set_ropts c state.rows) state).copies
copies_behind (fields.RDelete c) state = (changed_state (edits_of_r_delete c state.rows) state).copies
copies_behind command state = state.copies

-- Behind an accepted command, which is the record of it: one command more, and the rows are as it leaves them.
abbrev pub state_behind : State → CommandRecord → State
state_behind state given = record { rows = step given.issuer given.command state.rows; copies = copies_behind given.command state }

abbrev pub image_behind : Imaged → CommandRecord → Imaged
image_behind image given = record { state = state_behind image.state given; generation = image.generation + 1 }

-- Its record stands in the journal behind the last gate, and then the next gate.
abbrev pub position_behind : Position → CommandRecord → Position
position_behind position given =
    record { image = image_behind position.image given; gate = position.gate + 1 + length (spelled given) }

-- Behind a command with this outcome: a refusal changes nothing.
abbrev pub position_after : Position → Result CommandRecord Refusal → Position
position_after position (Ok given) = position_behind position given
position_after position (Err why) = position

-- What is left of a position where the desk is opened again: each listed copy is equal to the live profiles.
abbrev pub restarted : Position → Position
restarted position =
    record {
      image = record { state = restart position.image.state.rows; generation = position.image.generation };
      gate = position.gate;
    }
