-- From what a put adds to the counts.
use Rattle.class_profiles.proofs.Changes.{enough}
use Rattle.class_profiles.proofs.laws.counts_are_enough.Goals as goal

pub returns : goal.returns
returns c = λ list class row p lawful few found is room few_entries. enough c.order_is_total.ensures.not_both c.order_is_total.ensures.passed_on list class row p lawful few found is room few_entries
