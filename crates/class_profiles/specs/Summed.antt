-- How all classes are kept: each with its profiles, and the counts beside them.
use Rattle.std.specs.Prelude.{◌≡◌, ◌-◌, ◌≤◌, List, map, vec_len, vec_capacity}
use Rattle.racf_profiles.specs.declared.class_rows.ClassRow.{ClassRow}
use Rattle.class_profiles.specs.declared.class_tables.ClassTables.TheInside.{Inside}
use Rattle.racf_profiles.specs.LawfulProfiles.{AreClasses}
use Rattle.racf_profiles.specs.Limits.{most_profiles, most_entries_in_all}
use Rattle.class_profiles.specs.Classes.{ClassWithRoom, ClassList}
use Rattle.racf_profiles.specs.Counts.{profile_count, entry_count}

abbrev pub rows_in : List ClassWithRoom → List ClassRow
rows_in classes = map (λ (class : ClassWithRoom). class.row) classes

abbrev pub class_list : Inside → ClassList
class_list tables = record {
  classes = rows_in tables.classes.items;
  spare = map (λ (class : ClassWithRoom). class.spare) tables.classes.items;
  more_classes = vec_capacity tables.classes - vec_len tables.classes;
}

-- The classes are lawful, the counts are theirs, and the limits hold.
pub record AreSummed (tables : Inside) : Type 0 where
  pub lawful : AreClasses (rows_in tables.classes.items)
  pub counted : tables.count ≡ profile_count (rows_in tables.classes.items)
  pub entries_counted : tables.entries ≡ entry_count (rows_in tables.classes.items)
  pub few : tables.count ≤ most_profiles
  pub few_entries : tables.entries ≤ most_entries_in_all
