use Rattle.std.proofs.Common.{not}
use Rattle.std.specs.Option.{option_copied}
use Rattle.generic_names.specs.Covers.{covers}
use Rattle.profile_index.specs.Places.{IsFirstBehind}
use Rattle.profile_index.proofs.search.most_specific.Given as goal

abbrev pub invariant-loop-run : goal.invariant-loop-run
invariant-loop-run g l = IsFirstBehind (λ e. not (covers e.name l.name)) l.list (option_copied l.next)
