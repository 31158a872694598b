-- The names of profiles that an image places anew.
use Rattle.std.specs.Prelude.{ℕ, List, length, map, sum_by}
use Rattle.generic_names.specs.OrderKey.{order_key}
use Rattle.racf_profiles.specs.declared.profiles.Profile.{Profile}
use Rattle.racf_profiles.specs.declared.class_rows.ClassRow.{ClassRow}
use Rattle.racf_profiles.specs.declared.rows.Rows.{Rows}
use Rattle.racf_profiles.specs.declared.edits.Edit.{Edit}
use Rattle.racf_profiles.specs.declared.edits.Edit.TheVariants.{PutProfile, DropProfile}
use Rattle.dataspace.specs.declared.room.Room.{Room}
use Rattle.dataspace.specs.Rooms.{room_for}
use Rattle.profile_index.specs.Buckets.{most_placed}
use Rattle.class_profiles.specs.Table.{ProfilesOfKind}

-- the lengths of the names of these profiles, and of those of all classes
abbrev pub profile_names : List Profile → ℕ
profile_names profiles = sum_by (λ (profile : Profile). length profile.name.text) profiles

abbrev pub names_placed : Rows → ℕ
names_placed rows = sum_by (λ (class : ClassRow). profile_names class.profiles) rows.classes

-- what an image keeps of these profiles' names, and goes by: their order keys, in the order of the profiles
abbrev pub keys_of : List Profile → List (List ℕ)
keys_of profiles = map (λ (profile : Profile). order_key profile.name.text) profiles

-- the room of the keys of the profiles of a class's image, which its regions take
abbrev pub room_taken : ProfilesOfKind → Room
room_taken image = room_for (keys_of image.profiles)

-- An edit of a profile places at most the names of one full bucket and a new one, and any other edit none.
abbrev pub placed_at_most : Edit → ℕ
placed_at_most (PutProfile class profile) = most_placed
placed_at_most (DropProfile class name) = most_placed
placed_at_most edit = 0

abbrev pub most_placed_by : List Edit → ℕ
most_placed_by edits = sum_by placed_at_most edits
