use Rattle.seclabels.proofs.OrderLaws.{dominates_itself, passed_on, each_other, high_dominates, dominates_low}
use Rattle.seclabels.proofs.laws.dominance_is_an_order.Goals as goal

pub returns-clause-itself : goal.returns-clause-itself
returns-clause-itself c = dominates_itself

pub returns-clause-passed_on : goal.returns-clause-passed_on
returns-clause-passed_on c = passed_on

pub returns-clause-each_other : goal.returns-clause-each_other
returns-clause-each_other c = each_other

pub returns-clause-high : goal.returns-clause-high
returns-clause-high c = high_dominates

pub returns-clause-low : goal.returns-clause-low
returns-clause-low c = dominates_low
