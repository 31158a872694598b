-- By induction on the edits.
use Rattle.racf_profiles.proofs.Copies.{restart-copied, edit-copied}
use Rattle.racf_profiles.proofs.laws.listed_classes_have_copies.Goals as goal

pub returns-clause-restart : goal.returns-clause-restart
returns-clause-restart c = λ rows name listed. restart-copied name rows.classes listed

pub returns-clause-edit : goal.returns-clause-edit
returns-clause-edit c = λ edit state have. edit-copied edit state have
