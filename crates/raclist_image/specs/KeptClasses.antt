-- How a class is kept: its name, its options and its profiles; and how the classes are.
use Rattle.std.specs.Prelude.{◌≡◌, ℕ, List, position, bytes_eq}
use Rattle.std.specs.Arc.{arc_value}
use Rattle.indexmap.specs.IndexMap.{IndexMap, get}
use Rattle.racf_profiles.specs.declared.class_rows.ClassRow.{ClassRow}
use Rattle.racf_profiles.specs.LawfulProfiles.{kind_in}
use Rattle.racf_profiles.specs.Lookup.{is_class}
use Rattle.raclist_image.specs.declared.classes.ClassEntry.TheInside.{Inside}

abbrev pub row_of : Inside → ClassRow
row_of class = record {
  name = class.name;
  active = class.options.active;
  listed = class.options.listed;
  global = class.options.global;
  log = class.options.log;
  profiles = (arc_value class.profiles).profiles;
}

-- The names of its profiles have the kind of the class.
abbrev pub IsKept : Inside → Type 0
IsKept class = (arc_value class.profiles).kind ≡ kind_in class.name

-- The index has the place of the first class of each name.
abbrev pub ArePlacesOf : {S : Type 0} → List ClassRow → IndexMap (List ℕ) ℕ S → Type 0
ArePlacesOf classes places = (name : List ℕ) → get bytes_eq places name ≡ position (is_class name) classes
