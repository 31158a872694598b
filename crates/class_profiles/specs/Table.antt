-- The profiles of one class as a list, and what is asked of it.
use Rattle.std.specs.Prelude.{◌≡◌, ℕ, ◌<◌, ◌≤◌, List, length, Option, None, IfSome}
use Rattle.std.specs.List.{find, slice_get}
use Rattle.std.specs.Option.{option_and_then}
use Rattle.generic_names.specs.declared.kind.NameKind.{NameKind}
use Rattle.generic_names.specs.Spelled.{Spelled}
use Rattle.generic_names.specs.Best.{best}
use Rattle.racf_profiles.specs.declared.profiles.Profile.{Profile}
use Rattle.racf_profiles.specs.Lookup.{is_profile}
use Rattle.racf_profiles.specs.Edits.{put_profile}
use Rattle.racf_profiles.specs.Limits.{most_class_profiles}

-- The kind of the names, the profiles in order of specificity, and how many can be added without memory.
pub record ProfileList : Type 0 where
  pub kind : NameKind
  pub profiles : List Profile
  pub spare : ℕ

-- The same without room: a table that doesn't change.
pub record ProfilesOfKind : Type 0 where
  pub kind : NameKind
  pub profiles : List Profile

-- The profile that decides on a name: the most specific of those that cover it.
abbrev pub best_profile : List Profile → Spelled → Option Profile
best_profile profiles name = best (λ (profile : Profile). profile.name) profiles name

-- An answer that is a place stands for the profile there, and none for none.
pub record IsPlaceOf (profiles : List Profile) (profile : Option Profile) (answer : Option ℕ) : Type 0 where
  pub within : IfSome answer (λ place. place < length profiles)
  pub there : option_and_then (λ place. slice_get profiles place) answer ≡ profile

-- The profile has a name of the kind, a profile of its name or room for one more is there, and they aren't too many
-- then.
pub record CanPut (list : ProfileList) (profile : Profile) : Type 0 where
  pub kind : profile.name.kind ≡ list.kind
  pub room : find (is_profile profile.name) list.profiles ≡ None → 0 < list.spare
  pub few : length (put_profile profile list.profiles) ≤ most_class_profiles
