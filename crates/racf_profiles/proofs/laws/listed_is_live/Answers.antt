-- The copy that was put is found.
use Rattle.racf_profiles.proofs.States.{effective-listed}
use Rattle.racf_profiles.proofs.laws.listed_is_live.Goals as goal

pub returns : goal.returns
returns c = λ name row state found. effective-listed name row state found
