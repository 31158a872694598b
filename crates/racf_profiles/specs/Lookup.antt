-- Rows by their names.
use Rattle.std.specs.Prelude.{ℕ, Bool, List, Option, IsSome, option_and_then}
use Rattle.std.specs.Str.{bytes_eq}
use Rattle.std.specs.List.{find}
use Rattle.generic_names.specs.Spelled.{Spelled}
use Rattle.racf_profiles.specs.declared.users.User.{User}
use Rattle.racf_profiles.specs.declared.groups.Group.{Group}
use Rattle.racf_profiles.specs.declared.profiles.Profile.{Profile}
use Rattle.racf_profiles.specs.declared.class_rows.ClassRow.{ClassRow}
use Rattle.racf_profiles.specs.declared.rows.Rows.{Rows}

-- Whether a row has the name that is sought. The profiles of a class have names of one kind, so their texts tell them
-- apart.
abbrev pub is_user : List ℕ → User → Bool
is_user id user = bytes_eq user.id id

abbrev pub is_group : List ℕ → Group → Bool
is_group id group = bytes_eq group.id id

abbrev pub is_class : List ℕ → ClassRow → Bool
is_class name class = bytes_eq class.name name

abbrev pub is_profile : Spelled → Profile → Bool
is_profile name profile = bytes_eq profile.name.text name.text

-- The group of that name in a list of groups.
abbrev pub find_group : List Group → List ℕ → Option Group
find_group groups id = find (is_group id) groups

abbrev pub IsGroup : List Group → List ℕ → Type 0
IsGroup groups id = IsSome (find_group groups id)

-- The row of a name, where there is one.
abbrev pub user_of : List ℕ → Rows → Option User
user_of id rows = find (is_user id) rows.users

abbrev pub group_of : List ℕ → Rows → Option Group
group_of id rows = find (is_group id) rows.groups

abbrev pub class_of : List ℕ → Rows → Option ClassRow
class_of name rows = find (is_class name) rows.classes

abbrev pub profile_of : List ℕ → Spelled → Rows → Option Profile
profile_of class name rows = option_and_then (λ row. find (is_profile name) row.profiles) (class_of class rows)
