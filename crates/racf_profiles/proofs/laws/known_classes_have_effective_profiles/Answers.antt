-- By cases on what is found.
use Rattle.racf_profiles.specs.Lookup.{class_of}
use Rattle.racf_profiles.specs.State.{copy_of}
use Rattle.racf_profiles.proofs.States.{effective-there}
use Rattle.racf_profiles.proofs.laws.known_classes_have_effective_profiles.Goals as goal

pub returns : goal.returns
returns c = λ name state. effective-there (copy_of name state.copies) (class_of name state.rows)
