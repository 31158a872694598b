-- By induction on the edits.
use Rattle.racf_profiles.proofs.Copies.{changed-rows}
use Rattle.racf_profiles.proofs.laws.rows_are_changed.Goals as goal

pub returns : goal.returns
returns c = λ edits state. changed-rows edits state
