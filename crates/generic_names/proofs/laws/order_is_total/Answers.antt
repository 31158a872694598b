use Rattle.generic_names.proofs.OrderLaws.{one_is_before, not_both, passed_on, ties_are_equal, equals_tie}
use Rattle.generic_names.proofs.laws.order_is_total.Goals as goal

pub returns-clause-either : goal.returns-clause-either
returns-clause-either c = one_is_before

pub returns-clause-not_both : goal.returns-clause-not_both
returns-clause-not_both c = not_both

pub returns-clause-passed_on : goal.returns-clause-passed_on
returns-clause-passed_on c = passed_on

pub returns-clause-ties : goal.returns-clause-ties
returns-clause-ties c = ties_are_equal

pub returns-clause-equals : goal.returns-clause-equals
returns-clause-equals c = equals_tie
