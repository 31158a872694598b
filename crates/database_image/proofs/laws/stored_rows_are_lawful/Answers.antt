use Rattle.database_image.proofs.Stored.{lawful as all_lawful}
use Rattle.database_image.proofs.laws.stored_rows_are_lawful.Goals as goal

pub returns : goal.returns
returns c = record { lawful = all_lawful }
