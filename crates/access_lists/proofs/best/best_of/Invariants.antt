use Rattle.std.proofs.Common.{◌≡◌, drop}
use Rattle.access_lists.specs.Answers.{first_of_two, group_entry}
use Rattle.access_lists.proofs.best.best_of.Given as goal

abbrev pub invariant-loop-entry : goal.invariant-loop-entry
invariant-loop-entry l = first_of_two l.best (group_entry l.places (drop l.entry-index l.list)) ≡ group_entry l.places l.list
