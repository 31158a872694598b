use Rattle.generic_names.proofs.UnderLaws.{first-not-lower, firsts-together}
use Rattle.generic_names.proofs.laws.first_qualifiers_stand_together.Goals as goal

pub returns-clause-not_lower : goal.returns-clause-not_lower
returns-clause-not_lower c = first-not-lower

pub returns-clause-together : goal.returns-clause-together
returns-clause-together c = firsts-together
