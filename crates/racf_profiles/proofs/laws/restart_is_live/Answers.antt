-- By induction on the classes.
use Rattle.racf_profiles.proofs.States.{effective_in-live}
use Rattle.racf_profiles.proofs.laws.restart_is_live.Goals as goal

pub returns : goal.returns
returns c = λ name rows. effective_in-live name rows.classes
