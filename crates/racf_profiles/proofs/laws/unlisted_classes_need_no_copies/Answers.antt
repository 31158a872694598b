-- By induction on the edits.
use Rattle.racf_profiles.proofs.Copies.{changed-restart, changed-none}
use Rattle.racf_profiles.proofs.laws.unlisted_classes_need_no_copies.Goals as goal

pub returns-clause-state : goal.returns-clause-state
returns-clause-state c = λ edits rows none all. changed-restart edits rows none all

pub returns-clause-none_listed : goal.returns-clause-none_listed
returns-clause-none_listed c = λ edits rows none all. changed-none edits rows none all
