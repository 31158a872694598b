use Rattle.desk_rules.proofs.RecoveryLaws.{at_restarted}
use Rattle.desk_rules.proofs.laws.recovery_agrees_with_the_running_desk.Goals as goal

-- what is opened again goes on to the same
pub returns-clause-history : goal.returns-clause-history
returns-clause-history c = at_restarted
