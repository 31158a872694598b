-- No number of the words so far is missing.
use Rattle.access_levels.proofs.Missing.{NoneBelow}
use Rattle.access_levels.proofs.categories.Categories.first_missing.Given as goal

abbrev pub invariant-loop-i : goal.invariant-loop-i
invariant-loop-i l = NoneBelow l.self l.wanted l.i
