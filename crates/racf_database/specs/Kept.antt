-- How a database is kept: its tables, and the change that was prepared, as contracts alone see it.
use Rattle.std.specs.Prelude.{MatchOption}
use Rattle.std.specs.Option.{option_map}
use Rattle.racf_profiles.specs.declared.edits.Change.{Change}
use Rattle.racf_profiles.specs.Edits.{changed}
use Rattle.racf_profiles.specs.Lawful.{AreLawful}
use Rattle.row_tables.specs.Tables.{Tables}
use Rattle.row_tables.specs.Applying.{CanApply}
use Rattle.racf_database.specs.declared.database.Database.TheInside.{Inside}
use Rattle.racf_database.specs.Contents.{Contents}

abbrev pub contents_of : Inside → Contents
contents_of database = record { rows = database.tables.rows; prepared = option_map (λ snapshot. snapshot.value) database.prepared }

-- The change can be applied without memory, and leaves lawful rows.
pub record IsReady (tables : Tables) (change : Change) : Type 0 where
  pub can : CanApply tables change.edits
  pub lawful : AreLawful (changed change.edits tables.rows)

-- The rows are lawful, and what was prepared is ready.
pub record IsKept (database : Inside) : Type 0 where
  pub lawful : AreLawful database.tables.rows
  pub ready : MatchOption (contents_of database).prepared (Unit {0}) (IsReady database.tables)
