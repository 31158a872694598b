-- All classes with their profiles, what these count together, and when a profile can be put.
use Rattle.std.specs.Prelude.{◌≡◌, ℕ, ◌<◌, ◌≤◌, Bool, false, if◌then◌else◌, List, [], ◌∷◌, ◌++◌, length, Option, None, IfSome, codes}
use Rattle.std.specs.List.{find}
use Rattle.std.specs.Option.{option_map, option_and_then}
use Rattle.std.specs.Str.{bytes_eq}
use Rattle.generic_names.specs.Spelled.{Spelled, first_qualifier}
use Rattle.racf_profiles.specs.declared.profiles.Profile.{Profile}
use Rattle.racf_profiles.specs.declared.class_rows.ClassRow.{ClassRow}
use Rattle.racf_profiles.specs.Lookup.{is_class, is_profile}
use Rattle.racf_profiles.specs.Edits.{put_profile, at_class, with_profile, added_class}
use Rattle.racf_profiles.specs.Counts.{profile_count, entry_count}
use Rattle.racf_profiles.specs.Limits.{most_class_profiles, most_profiles, most_entries_in_all}
use Rattle.racf_profiles.specs.DynamicClasses.{is_fixed}
use Rattle.racf_profiles.specs.LawfulProfiles.{AreClassNames, names_of, kind_in}

-- A class, and how many profiles can be added to it without memory.
pub record ClassWithRoom : Type 0 where
  pub row : ClassRow
  pub spare : ℕ

-- The classes in their order, how many profiles can be added to each without memory, and how many classes can.
pub record ClassList : Type 0 where
  pub classes : List ClassRow
  pub spare : List ℕ
  pub more_classes : ℕ

-- How many profiles can be added to the class of that name without memory.
abbrev pub room_among : List ℕ → List ClassRow → List ℕ → ℕ
room_among name [] spare = 0
room_among name (class ∷ classes) [] = 0
room_among name (class ∷ classes) (n ∷ spare) = if is_class name class then n else room_among name classes spare

abbrev pub room_in : List ℕ → ClassList → ℕ
room_in name list = room_among name list.classes list.spare

-- The profile of that very name in the class of that name.
abbrev pub profile_in : List ℕ → Spelled → List ClassRow → Option Profile
profile_in class name classes = option_and_then (λ (row : ClassRow). find (is_profile name) row.profiles) (find (is_class class) classes)

-- The first profile of DATASET, in order of specificity, whose name has that first qualifier.
abbrev pub is_under : List ℕ → Profile → Bool
is_under qualifier profile = bytes_eq (first_qualifier profile.name.text) qualifier

abbrev pub first_under : List ℕ → List ClassRow → Option Spelled
first_under qualifier classes =
    option_map (λ (profile : Profile). profile.name)
    (option_and_then (λ (row : ClassRow). find (is_under qualifier) row.profiles) (find (is_class (codes "DATASET")) classes))

-- There is room for one profile more in a class, and neither its profiles nor all are as many as there may be.
pub record IsRoomFor (list : ClassList) (class : List ℕ) (row : ClassRow) : Type 0 where
  pub room : 0 < room_in class list
  pub few_in_class : length row.profiles < most_class_profiles
  pub few : profile_count list.classes < most_profiles

-- The profile has a name of the class's kind, a profile of its name or room for one more is there, and the limits are
-- kept.
pub record CanPutIn (list : ClassList) (class : List ℕ) (profile : Profile) : Type 0 where
  pub kind : profile.name.kind ≡ kind_in class
  pub room : profile_in class profile.name list.classes ≡ None → 0 < room_in class list
  pub few_in_class : IfSome (find (is_class class) list.classes) (λ (row : ClassRow). length (put_profile profile row.profiles) ≤ most_class_profiles)
  pub few : profile_count (at_class class (with_profile profile) list.classes) ≤ most_profiles
  pub few_entries : entry_count (at_class class (with_profile profile) list.classes) ≤ most_entries_in_all

-- There is room for one class more, and its name can stand behind those of the others.
pub record CanAddClass (list : ClassList) (class : List ℕ) : Type 0 where
  pub room : 0 < list.more_classes
  pub names : AreClassNames (names_of (list.classes ++ added_class class ∷ []))

-- The class isn't of the fixed table, and where it is there it has no profiles.
pub record CanDropClass (list : ClassList) (class : List ℕ) : Type 0 where
  pub dynamic : is_fixed class ≡ false
  pub empty : IfSome (find (is_class class) list.classes) (λ (row : ClassRow). row.profiles ≡ [])
