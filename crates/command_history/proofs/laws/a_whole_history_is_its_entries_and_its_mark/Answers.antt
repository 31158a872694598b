use Rattle.command_history.proofs.Extensions.{all_is, entries_of_all, ended_all, failed_of_all, last_of_all}
use Rattle.command_history.proofs.laws.a_whole_history_is_its_entries_and_its_mark.Goals as goal

pub returns-clause-whole : goal.returns-clause-whole
returns-clause-whole c = all_is

pub returns-clause-entries : goal.returns-clause-entries
returns-clause-entries c = entries_of_all

pub returns-clause-mark : goal.returns-clause-mark
returns-clause-mark c = failed_of_all

pub returns-clause-ended : goal.returns-clause-ended
returns-clause-ended c = ended_all

pub returns-clause-last : goal.returns-clause-last
returns-clause-last c = last_of_all
