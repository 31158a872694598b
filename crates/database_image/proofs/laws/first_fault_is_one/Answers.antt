use Rattle.database_image.proofs.Verdicts.{apart, one}
use Rattle.database_image.proofs.laws.first_fault_is_one.Goals as goal

pub returns : goal.returns
returns c = record { apart = apart; one = one }
