use Rattle.generic_names.proofs.BestLaws.{best-first}
use Rattle.generic_names.proofs.laws.best_is_first.Goals as goal

pub returns : goal.returns
returns g c name_of = best-first name_of
