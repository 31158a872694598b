use Rattle.generic_names.proofs.OrderLaws.{gap_closed}
use Rattle.generic_names.proofs.laws.gap_is_closed.Goals as goal

pub returns : goal.returns
returns c = gap_closed
