use Rattle.lawful_commands.proofs.NewRows.{new_rows-lawful}
use Rattle.lawful_commands.proofs.new_rows_are_lawful.Goals as goal

pub returns : goal.returns
returns c = new_rows-lawful
