-- How a class and all classes are kept.
use Rattle.std.specs.Prelude.{◌≡◌}
use Rattle.class_profiles.specs.declared.class_table.ClassTable.TheInside.{Inside}
use Rattle.racf_profiles.specs.LawfulProfiles.{kind_in}
use Rattle.class_profiles.specs.Classes.{ClassWithRoom}

-- the row of a class, with its profiles in it
abbrev pub class_with_room : Inside → ClassWithRoom
class_with_room table = record {
  row = record { name = table.name; active = table.active; listed = table.listed; global = table.global; log = table.log; profiles = table.profiles.profiles };
  spare = table.profiles.spare;
}

-- a class's profiles have names of its kind
abbrev pub HasItsKind : Inside → Type 0
HasItsKind table = table.profiles.kind ≡ kind_in table.name
