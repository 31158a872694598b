-- By induction on the classes.
use Rattle.class_profiles.proofs.Changes.{drop-profiles, drop-entries_in}
use Rattle.class_profiles.proofs.laws.drops_are_counted.Goals as goal

pub returns-clause-profiles : goal.returns-clause-profiles
returns-clause-profiles c = drop-profiles

pub returns-clause-entries : goal.returns-clause-entries
returns-clause-entries c = drop-entries_in
