-- How far a recovery is.
use Rattle.std.specs.Prelude.{◌≡◌, ◌≤◌}
use Rattle.racf_desk.specs.declared.recovery.Recovery.{Recovery}
use Rattle.desk_rules.specs.Outcome.{most_number}
use Rattle.desk_rules.specs.Position.{Position}

-- It has the rows, the number and the gate of this position.
pub record IsAt (recovery : Recovery) (position : Position) : Type 0 where
  pub rows : recovery.database.rows ≡ position.image.state.rows
  pub number : recovery.number ≡ position.image.generation
  pub gate : recovery.gate ≡ position.gate
  pub within : recovery.number ≤ most_number
