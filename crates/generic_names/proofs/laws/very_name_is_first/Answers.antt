use Rattle.generic_names.proofs.FirstLaws.{very_name_first}
use Rattle.generic_names.proofs.BestLaws.{covers-itself}
use Rattle.generic_names.proofs.laws.very_name_is_first.Goals as goal

pub returns-clause-first : goal.returns-clause-first
returns-clause-first c = very_name_first

pub returns-clause-itself : goal.returns-clause-itself
returns-clause-itself c = covers-itself
