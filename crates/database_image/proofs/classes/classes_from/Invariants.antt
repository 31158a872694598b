use Rattle.std.proofs.Common.{◌≡◌, ◌-◌, ◌≤◌, []}
use Rattle.racf_profiles.specs.Counts.{profile_count, entry_count}
use Rattle.racf_profiles.specs.Limits.{most_profiles, most_entries_in_all}
use Rattle.database_image.specs.Forms.{items_from}
use Rattle.database_image.specs.Description.{class}
use Rattle.database_image.proofs.classes.classes_from.Given as goal

abbrev pub invariant-loop : goal.invariant-loop
invariant-loop l = record {
  profiles : l.profiles ≡ profile_count l.items.items;
  few_profiles : l.profiles ≤ most_profiles;
  entries : l.entries ≡ entry_count l.items.items;
  few_entries : l.entries ≤ most_entries_in_all;
  read : items_from (class l.categories) (l.count - l.counter) l.items.items l.left ≡ items_from (class l.categories) l.count [] l.fn.left;
}
