use Rattle.std.proofs.Common.{◌≡◌, drop}
use Rattle.access_lists.specs.Answers.{first_of_two, group_entry, entries_under}
use Rattle.access_lists.proofs.best.best_under.Given as goal

abbrev pub invariant-loop-entry : goal.invariant-loop-entry
invariant-loop-entry l = first_of_two l.best (group_entry l.places (entries_under l.port (drop l.entry-index l.list))) ≡ group_entry l.places (entries_under l.port l.list)
