-- What contracts see of a database.
use Rattle.std.specs.Prelude.{Option}
use Rattle.racf_profiles.specs.declared.rows.Rows.{Rows}
use Rattle.racf_profiles.specs.declared.edits.Change.{Change}

-- Its rows, and the change that was prepared last and isn't applied.
pub record Contents : Type 0 where
  pub rows : Rows
  pub prepared : Option Change
