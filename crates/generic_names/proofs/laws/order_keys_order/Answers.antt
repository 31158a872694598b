use Rattle.generic_names.proofs.KeyLaws.{keys-compare, lower-before, lower-below, lower-passed_on, equal-keys}
use Rattle.generic_names.proofs.laws.order_keys_order.Goals as goal

pub returns-clause-order : goal.returns-clause-order
returns-clause-order c = keys-compare

pub returns-clause-before : goal.returns-clause-before
returns-clause-before c = lower-before

pub returns-clause-below : goal.returns-clause-below
returns-clause-below c = lower-below

pub returns-clause-passed_on : goal.returns-clause-passed_on
returns-clause-passed_on c = lower-passed_on

pub returns-clause-equal : goal.returns-clause-equal
returns-clause-equal c = equal-keys
