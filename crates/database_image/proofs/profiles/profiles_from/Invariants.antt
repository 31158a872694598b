use Rattle.std.proofs.Common.{◌≡◌, ◌+◌, ◌-◌, ◌≤◌, [], length}
use Rattle.std.specs.List.{sum_by}
use Rattle.racf_profiles.specs.Counts.{entries_in}
use Rattle.racf_profiles.specs.Limits.{most_entries_in_all}
use Rattle.database_image.specs.Forms.{items_from}
use Rattle.database_image.specs.Description.{profile}
use Rattle.database_image.proofs.profiles.profiles_from.Given as goal

abbrev pub invariant-loop : goal.invariant-loop
invariant-loop l = record {
  held : l.held ≡ l.earlier + sum_by entries_in l.items.items;
  few : l.held ≤ most_entries_in_all;
  counted : length l.items.items ≡ l.counter;
  within : l.counter ≤ l.count;
  read : items_from (profile l.categories l.class l.earlier) (l.count - l.counter) l.items.items l.left ≡ items_from (profile l.categories l.class l.earlier) l.count [] l.fn.left;
}
