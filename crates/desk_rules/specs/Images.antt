-- Images of the rows of a database.
use Rattle.std.specs.Prelude.{◌≡◌, ◌≤◌}
use Rattle.racf_profiles.specs.declared.rows.Rows.{Rows}
use Rattle.raclist_image.specs.Imaged.{Imaged}
use Rattle.desk_rules.specs.Outcome.{most_number}

-- An image of the rows, whatever its listed copies are, with a number that there is.
pub record IsImageOf (rows : Rows) (image : Imaged) : Type 0 where
  pub same : image.state.rows ≡ rows
  pub number : image.generation ≤ most_number
