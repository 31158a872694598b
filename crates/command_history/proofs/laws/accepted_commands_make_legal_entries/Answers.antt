use Rattle.command_history.proofs.Leading.{legal_added, legal_ended, legal_history}
use Rattle.command_history.proofs.laws.accepted_commands_make_legal_entries.Goals as goal

pub returns-clause-added : goal.returns-clause-added
returns-clause-added c = legal_added

pub returns-clause-ended : goal.returns-clause-ended
returns-clause-ended c = legal_ended

pub returns-clause-history : goal.returns-clause-history
returns-clause-history c = legal_history
