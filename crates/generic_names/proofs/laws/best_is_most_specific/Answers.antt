use Rattle.generic_names.proofs.MostSpecific.{best-most-specific}
use Rattle.generic_names.proofs.laws.best_is_most_specific.Goals as goal

pub returns : goal.returns
returns g c name_of = best-most-specific name_of
