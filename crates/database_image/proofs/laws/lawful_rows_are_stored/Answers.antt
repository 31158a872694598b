use Rattle.database_image.proofs.FitRows.{stored}
use Rattle.database_image.proofs.laws.lawful_rows_are_stored.Goals as goal

pub returns : goal.returns
returns c = record { stored = stored }
