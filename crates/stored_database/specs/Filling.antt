-- Classes without profiles that are filled with those of rows.
use Rattle.std.specs.Prelude.{◌≡◌, ℕ, ◌+◌, ◌<◌, ◌≤◌, true, List, [], ◌∷◌, ◌++◌, length, map, drop, IsSomeAnd}
use Rattle.std.specs.List.{find, AllByRecursion}
use Rattle.generic_names.specs.Before.{before}
use Rattle.racf_profiles.specs.declared.profiles.Profile.{Profile}
use Rattle.racf_profiles.specs.declared.class_rows.ClassRow.{ClassRow}
use Rattle.racf_profiles.specs.Counts.{profile_count, entry_count, entries_in}
use Rattle.racf_profiles.specs.ClassTable.{fixed_classes, is_dataset}
use Rattle.racf_profiles.specs.NewDatabase.{new_classes}
use Rattle.racf_profiles.specs.Edits.{added_class}
use Rattle.racf_profiles.specs.Limits.{most_class_profiles, most_profiles, most_entries_in_all}
use Rattle.racf_profiles.specs.LawfulProfiles.{kind_in}
use Rattle.racf_profiles.specs.Lookup.{is_class}
use Rattle.class_profiles.specs.Classes.{ClassList, room_in}

-- Classes of these rows' names, without profiles: the fixed ones as in a new database, and behind them the dynamic ones,
-- as they are added.
abbrev pub empty_like : List ClassRow → List ClassRow
empty_like rows = new_classes is_dataset ++ map (λ (row : ClassRow). added_class row.name) (drop (length fixed_classes) rows)

-- The class of that name is there, and has no profiles.
abbrev pub HasNoProfiles : (name : List ℕ) → List ClassRow → Type 0
HasNoProfiles name classes = IsSomeAnd (find (is_class name) classes) (λ (row : ClassRow). row.profiles ≡ [])

-- A class with all that this row says of it, but for the profiles.
abbrev pub with_all_flags : ClassRow → ClassRow → ClassRow
with_all_flags flags class = record class { active = flags.active; listed = flags.listed; global = flags.global; log = flags.log }

-- A class with these profiles.
abbrev pub with_profiles : List Profile → ClassRow → ClassRow
with_profiles profiles class = record class { profiles = profiles }

-- A class with one profile behind its others.
abbrev pub with_last : Profile → ClassRow → ClassRow
with_last profile class = record class { profiles = class.profiles ++ profile ∷ [] }

-- A class's profiles are all more specific than this one, and one more is not too many.
pub record AreBefore (profile : Profile) (class : ClassRow) : Type 0 where
  pub first : AllByRecursion (λ (other : Profile). before other.name profile.name ≡ true) class.profiles
  pub few : length class.profiles < most_class_profiles

-- A profile can be put behind the others of its class: its name is of the class's kind, there is room, and the limits
-- over all are kept.
pub record CanComeLast (list : ClassList) (class : List ℕ) (profile : Profile) : Type 0 where
  pub there : IsSomeAnd (find (is_class class) list.classes) (AreBefore profile)
  pub kind : profile.name.kind ≡ kind_in class
  pub room : 0 < room_in class list
  pub few : profile_count list.classes < most_profiles
  pub few_entries : entry_count list.classes + entries_in profile ≤ most_entries_in_all
