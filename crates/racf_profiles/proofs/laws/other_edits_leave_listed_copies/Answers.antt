-- By induction on the edits.
use Rattle.racf_profiles.proofs.States.{effective-left}
use Rattle.racf_profiles.proofs.laws.other_edits_leave_listed_copies.Goals as goal

pub returns : goal.returns
returns c = λ name edits state listed others. effective-left name edits state listed others
