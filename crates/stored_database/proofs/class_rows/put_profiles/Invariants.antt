use Rattle.std.proofs.Common.{◌≡◌, ◌+◌, ◌≤◌, ◌++◌, length}
use Rattle.std.specs.List.{sum_by}
use Rattle.std.specs.Vec.Iter.{into_iter_items}
use Rattle.racf_profiles.specs.Counts.{profile_count, entry_count, entries_in}
use Rattle.racf_profiles.specs.Edits.{at_class}
use Rattle.racf_profiles.specs.Limits.{most_profiles, most_entries_in_all}
use Rattle.class_profiles.specs.Classes.{room_in}
use Rattle.stored_database.specs.Filling.{with_profiles}
use Rattle.stored_database.proofs.class_rows.put_profiles.Given as goal

-- the class has the profiles so far, and there is room for those that are left
abbrev pub invariant-loop-profile : goal.invariant-loop-profile
invariant-loop-profile l = record {
  whole : l.yielded ++ into_iter_items l.profile-iterator ≡ l.fn.profiles;
  so_far : l.tables.classes ≡ at_class l.class (with_profiles l.yielded) l.fn.tables.classes;
  room : length (into_iter_items l.profile-iterator) ≤ room_in l.class l.tables;
  few : profile_count l.tables.classes + length (into_iter_items l.profile-iterator) ≤ most_profiles;
  few_entries : entry_count l.tables.classes + sum_by entries_in (into_iter_items l.profile-iterator) ≤ most_entries_in_all;
}
