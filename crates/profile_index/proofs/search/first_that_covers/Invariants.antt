use Rattle.std.proofs.Common.{◌≡◌, ◌-◌, ◌≤◌, false, length}
use Rattle.std.specs.List.{AllWithin}
use Rattle.generic_names.specs.Covers.{covers}
use Rattle.profile_index.proofs.search.first_that_covers.Given as goal

abbrev pub invariant-loop-place : goal.invariant-loop-place
invariant-loop-place g l = record {
  within : l.place ≤ length (g.E.EntryList.entries l.list);
  none : AllWithin (λ e. covers e.name l.name ≡ false) (g.E.EntryList.entries l.list) 0 l.place;
}

abbrev pub decreases-loop-place : goal.decreases-loop-place
decreases-loop-place g l = length (g.E.EntryList.entries l.list) - l.place
