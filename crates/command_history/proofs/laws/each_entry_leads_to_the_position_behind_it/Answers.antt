use Rattle.command_history.proofs.Leading.{reached_none, reached_added, reached_ended}
use Rattle.command_history.proofs.laws.each_entry_leads_to_the_position_behind_it.Goals as goal

pub returns-clause-none : goal.returns-clause-none
returns-clause-none c = reached_none

pub returns-clause-added : goal.returns-clause-added
returns-clause-added c = reached_added

pub returns-clause-ended : goal.returns-clause-ended
returns-clause-ended c = reached_ended
