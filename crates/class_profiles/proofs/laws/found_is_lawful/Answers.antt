-- By induction on the classes.
use Rattle.class_profiles.proofs.Places.{lawful-found_by}
use Rattle.class_profiles.proofs.laws.found_is_lawful.Goals as goal

pub returns : goal.returns
returns c = λ class row classes lawful found. lawful-found_by class row classes found lawful
