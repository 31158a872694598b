-- Fields that may mislead: values of rows that no image has, but whose bytes would be read as others. Each is told as a
-- fact: its place, and whether it is read as itself.
use Rattle.std.specs.Prelude.{ℕ, ◌+◌, ◌*◌, ◌^◌, Bool, not, ◌&&◌, nat_lt, List, [], ◌∷◌, ◌++◌, length}
use Rattle.std.specs.List.{sum_by}
use Rattle.generic_names.specs.declared.kind.NameKind.{NameKind}
use Rattle.racf_profiles.specs.declared.users.User.{User}
use Rattle.racf_profiles.specs.declared.profiles.Profile.{Profile}
use Rattle.racf_profiles.specs.declared.profiles.Member.{Member}
use Rattle.racf_profiles.specs.declared.profiles.Member.TheVariants.{Access, SecurityLevel, Category, Traits}
use Rattle.racf_profiles.specs.declared.class_rows.ClassRow.{ClassRow}
use Rattle.racf_profiles.specs.declared.rows.Rows.{Rows}
use Rattle.racf_profiles.specs.LawfulProfiles.{kind_in, is_of_kind, is_logged_level}
use Rattle.database_image.specs.Description.{is_old_count}
use Rattle.database_image.specs.Facts.{Fact, told, told_of_each, user_width, member_width, profile_width, class_width, users_place}

-- A count, or a length, is read as itself where it has room in so many bytes.
abbrev pub has_room : (width count : ℕ) → Bool
has_room width count = nat_lt count (256 ^ width)

-- A set is read as itself where it has the numbers 0 to 255 alone.
abbrev pub is_of_bytes : (set : ℕ) → Bool
is_of_bytes set = nat_lt set (2 ^ 256)

-- of a user: how long the name is, the set of categories, and how many classes and connections there are
abbrev pub user_marks : ℕ → User → List Fact
user_marks place user =
    told (place + 24) (has_room 1 (length user.name))
    ∷ told (place + 27 + length user.name) (is_of_bytes user.categories)
    ∷ told (place + 67 + length user.name) (has_room 1 (length user.classes))
    ∷ told (place + 68 + length user.name + 8 * length user.classes) (has_room 2 (length user.connects))
    ∷ []

-- of a member: whether its name is of the kind that the profile's members name
abbrev pub member_marks : NameKind → ℕ → Member → List Fact
member_marks kind place (Access resources level) = told (place + 3) (is_of_kind kind resources.kind) ∷ []
member_marks kind place (SecurityLevel name number) = []
member_marks kind place (Category name) = []
member_marks kind place (Traits traits) = []

-- of a profile: whether its name is of its class's kind, whether each level of auditing is one of an access, the set of
-- categories, and how many entries and members there are
abbrev pub audit_marks : ℕ → Profile → List Fact
audit_marks place profile =
    told place (is_logged_level profile.audit.success)
    ∷ told (place + 1) (is_logged_level profile.audit.failures)
    ∷ told (place + 2) (is_logged_level profile.global_audit.success)
    ∷ told (place + 3) (is_logged_level profile.global_audit.failures)
    ∷ []

abbrev pub list_marks : ℕ → Profile → List Fact
list_marks place profile =
    told place (has_room 2 (length profile.standard))
    ∷ told (place + 2 + 9 * length profile.standard) (has_room 2 (length profile.conditional))
    ∷ told (place + 4 + 9 * length profile.standard + 18 * length profile.conditional) (has_room 2 (length profile.members))
    ∷ told_of_each member_width (member_marks (kind_in profile.name.text)) (place + 6 + 9 * length profile.standard + 18 * length profile.conditional) profile.members

abbrev pub profile_marks : NameKind → ℕ → Profile → List Fact
profile_marks kind place profile =
    told (place + 2) (is_of_kind kind profile.name.kind)
    ∷ audit_marks (place + 12 + length profile.name.text) profile
    ++ told (place + 17 + length profile.name.text) (is_of_bytes profile.categories)
    ∷ list_marks (place + 57 + length profile.name.text) profile

-- of a class: how many profiles there are
abbrev pub class_marks : ℕ → ClassRow → List Fact
class_marks place class =
    told (place + 10) (has_room 4 (length class.profiles))
    ∷ told_of_each profile_width (profile_marks (kind_in class.name)) (place + 14) class.profiles

-- A count of classes is read as itself where it has room, and the class CDT is among them.
abbrev pub tells_classes : ℕ → Bool
tells_classes count = has_room 2 count && not (is_old_count count)

-- ---- all of them, with how many categories, groups, users and classes there are
abbrev pub marks : Rows → List Fact
marks rows =
    told 1 (has_room 2 (length rows.options.categories))
    ∷ told (3 + 8 * length rows.options.categories) (has_room 4 (length rows.groups))
    ∷ told (users_place rows) (has_room 4 (length rows.users))
    ∷ told_of_each user_width user_marks (users_place rows + 4) rows.users
    ++ told (users_place rows + 4 + sum_by user_width rows.users) (tells_classes (length rows.classes))
    ∷ told_of_each class_width class_marks (users_place rows + 6 + sum_by user_width rows.users) rows.classes
