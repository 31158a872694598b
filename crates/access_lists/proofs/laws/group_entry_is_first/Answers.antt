use Rattle.access_lists.proofs.BestLaws.{group_entry-first}
use Rattle.access_lists.proofs.laws.group_entry_is_first.Goals as goal

pub returns : goal.returns
returns c = group_entry-first
