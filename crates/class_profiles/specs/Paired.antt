-- How a class's profiles are kept: each under its own name.
use Rattle.std.specs.Prelude.{◌≡◌, List, map}
use Rattle.generic_names.specs.declared.kind.NameKind.{NameKind}
use Rattle.profile_index.specs.declared.entry.Entry.{Entry}
use Rattle.racf_profiles.specs.declared.profiles.Profile.{Profile}
use Rattle.class_profiles.specs.declared.table.ProfileTable.TheInside.{Inside}
use Rattle.class_profiles.specs.Table.{ProfileList}
use Rattle.racf_profiles.specs.LawfulProfiles.{AreProfiles}

abbrev pub entry_of : Profile → Entry Profile
entry_of profile = record { name = profile.name; item = profile }

abbrev pub items_of : List (Entry Profile) → List Profile
items_of entries = map (λ (entry : Entry Profile). entry.item) entries

abbrev pub list_of : Inside → ProfileList
list_of table = record { kind = table.kind; profiles = items_of table.profiles.entries; spare = table.profiles.spare }

pub record IsPaired (kind : NameKind) (entries : List (Entry Profile)) : Type 0 where
  pub paired : entries ≡ map entry_of (items_of entries)
  pub lawful : AreProfiles kind (items_of entries)
