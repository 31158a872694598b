use Rattle.lawful_commands.proofs.Switches.{switched-lawful}
use Rattle.lawful_commands.proofs.switches_keep_rows_lawful.Goals as goal

pub returns : goal.returns
returns c = switched-lawful
