use Rattle.std.proofs.Common.{arith}
use Rattle.indexmap.proofs.CallerLemmas.{insert_entry-new}
use Rattle.group_tree.proofs.tree.put_last.Goals as goal

-- a new name goes last
pub returns-in-Ok-clause-last : goal.returns-in-Ok-clause-last
returns-in-Ok-clause-last c = grind (arith, insert_entry-new)
