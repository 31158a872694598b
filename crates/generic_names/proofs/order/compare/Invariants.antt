use Rattle.std.proofs.Common.{◌≡◌, length}
use Rattle.std.specs.Ordering.{nat_cmp}
use Rattle.std.specs.Cmp.Lexicographic.{slice_cmp}
use Rattle.generic_names.specs.Spelled.{qualifiers}
use Rattle.generic_names.specs.Before.{ranks}
use Rattle.generic_names.proofs.order.compare.Given as goal

abbrev pub invariant-loop-these : goal.invariant-loop-these
invariant-loop-these l = slice_cmp nat_cmp (ranks (qualifiers l.first)) (ranks (qualifiers l.second)) ≡ slice_cmp nat_cmp l.these l.those

abbrev pub decreases-loop-these : goal.decreases-loop-these
decreases-loop-these l = length l.these
