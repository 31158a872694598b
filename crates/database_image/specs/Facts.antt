-- The facts between fields, in the order of the fields that they are told of.
use Rattle.std.specs.Prelude.{ℕ, zero, suc, ◌+◌, ◌*◌, Bool, false, not, ◌&&◌, ◌||◌, List, [], ◌∷◌, ◌++◌, length, Option, is_some, option_map, bytes_eq, codes, if◌then◌else◌}
use Rattle.std.specs.List.{find, list_any, sum_by}
use Rattle.std.specs.Option.{option_map_or, option_and_then}
use Rattle.generic_names.specs.Spelled.{Spelled}
use Rattle.racf_profiles.specs.declared.users.User.{User}
use Rattle.racf_profiles.specs.declared.users.Connect.{Connect}
use Rattle.racf_profiles.specs.declared.groups.Group.{Group}
use Rattle.racf_profiles.specs.declared.class_rows.ClassRow.{ClassRow}
use Rattle.racf_profiles.specs.declared.profiles.Profile.{Profile}
use Rattle.racf_profiles.specs.declared.profiles.Member.{Member}
use Rattle.racf_profiles.specs.declared.profiles.Member.TheVariants.{Access, SecurityLevel, Category, Traits}
use Rattle.racf_profiles.specs.declared.fixed_classes.ClassFacts.{ClassFacts}
use Rattle.racf_profiles.specs.declared.rows.Rows.{Rows}
use Rattle.racf_profiles.specs.Lookup.{find_group, class_of, profile_of}
use Rattle.racf_profiles.specs.DynamicClasses.{cdt, general, facts_in, is_fixed}
use Rattle.racf_profiles.specs.LawfulProfiles.{is_profile_name}
use Rattle.racf_profiles.specs.Names.{is_connected_to, is_special_user}
use Rattle.racf_profiles.specs.LawfulUsers.{is_clauth_class}

-- The place of the field, and whether the fact holds.
pub record Fact : Type 0 where
  pub place : ℕ
  pub holds : Bool

abbrev pub told : ℕ → Bool → Fact
told place holds = record { place = place; holds = holds }

-- What is told of items that stand one behind another from this place on, each of its width.
abbrev pub told_of_each : {A : Type 0} → (width : A → ℕ) → (facts : ℕ → A → List Fact) → (place : ℕ) → List A → List Fact
told_of_each width facts place [] = []
told_of_each width facts place (x ∷ items) = facts place x ++ told_of_each width facts (place + width x) items

-- ---- how many bytes the parts have
abbrev pub group_width : Group → ℕ
group_width group = 24

abbrev pub class_id_width : List ℕ → ℕ
class_id_width name = 8

abbrev pub connect_width : Connect → ℕ
connect_width connection = 10

abbrev pub user_width : User → ℕ
user_width user = 70 + length user.name + 8 * length user.classes + 10 * length user.connects

abbrev pub member_width : Member → ℕ
member_width (Access resources level) = 4 + length resources.text
member_width (SecurityLevel name number) = 10
member_width (Category name) = 9
member_width (Traits traits) = 3

abbrev pub profile_width : Profile → ℕ
profile_width profile = 63 + length profile.name.text + 9 * length profile.standard + 18 * length profile.conditional + sum_by member_width profile.members

abbrev pub class_width : ClassRow → ℕ
class_width class = 14 + sum_by profile_width class.profiles

-- ---- groups: the superior group is there, and no group is below itself
-- Walking up from one group, so many steps, one comes to the other.
abbrev pub leads_to : (steps : ℕ) → List Group → (group from : List ℕ) → Bool
leads_to zero groups group from = false
leads_to (suc steps) groups group from = bytes_eq from group || option_map_or (λ superior. leads_to steps groups group superior) (option_and_then (λ (row : Group). row.superior) (find_group groups from)) false

-- No way up has more steps than there are groups.
abbrev pub is_superior_in : List Group → Group → List ℕ → Bool
is_superior_in groups group superior = is_some (find_group groups superior) && not (leads_to (length groups) groups group.id superior)

abbrev pub group_facts : Rows → ℕ → Group → List Fact
group_facts rows place group = option_map_or (λ superior. told (place + 8) (is_superior_in rows.groups group superior) ∷ []) group.superior []

-- ---- users: no group has the name, the default group is one that the user is connected to, CLAUTH names classes, and
-- the groups of the connections are there
abbrev pub is_there : Rows → List ℕ → Bool
is_there rows group = is_some (find_group rows.groups group)

abbrev pub class_id_facts : Rows → ℕ → List ℕ → List Fact
class_id_facts rows place name = told place (is_clauth_class rows name) ∷ []

abbrev pub connect_facts : Rows → ℕ → Connect → List Fact
connect_facts rows place connection = told place (is_there rows connection.group) ∷ []

abbrev pub user_facts : Rows → ℕ → User → List Fact
user_facts rows place user =
    told place (not (is_there rows user.id))
    ∷ told (place + 8) (is_there rows user.default_group && is_connected_to user.default_group user)
    ∷ told_of_each class_id_width (class_id_facts rows) (place + 68 + length user.name) user.classes
    ++ told_of_each connect_width (connect_facts rows) (place + 70 + length user.name + 8 * length user.classes) user.connects

-- ---- classes: each profile in GLOBAL has the name of a class, and each in CDT that of a dynamic one
abbrev pub profile_facts : Rows → ℕ → Profile → List Fact
profile_facts rows place profile = told (place + 2) (is_some (class_of profile.name.text rows)) ∷ []

abbrev pub defines_class : Rows → List ℕ → Bool
defines_class rows name = not (is_fixed name) && is_some (class_of name rows)

abbrev pub definition_facts : Rows → ℕ → Profile → List Fact
definition_facts rows place profile = told (place + 2) (defines_class rows profile.name.text) ∷ []

-- A dynamic class has its profile in CDT, by which the names of its own profiles are lawful.
abbrev pub is_name_by : Rows → Option ClassFacts → Spelled → Bool
is_name_by rows facts name = option_map_or (is_profile_name rows name) facts false

abbrev pub name_facts : Rows → Option ClassFacts → ℕ → Profile → List Fact
name_facts rows facts place profile = told (place + 2) (is_name_by rows facts profile.name) ∷ []

abbrev pub dynamic_facts : Rows → ℕ → ClassRow → List Fact
dynamic_facts rows place class =
    told place (is_some (profile_of cdt (general class.name) rows))
    ∷ told_of_each profile_width (name_facts rows (facts_in class.name rows)) (place + 14) class.profiles

abbrev pub class_facts : Rows → ℕ → ClassRow → List Fact
class_facts rows place class =
    if bytes_eq class.name (codes "GLOBAL") then told_of_each profile_width (profile_facts rows) (place + 14) class.profiles
    else if bytes_eq class.name cdt then told_of_each profile_width (definition_facts rows) (place + 14) class.profiles
    else if is_fixed class.name then []
    else dynamic_facts rows place class

-- ---- all of them
abbrev pub groups_place : Rows → ℕ
groups_place rows = 7 + 8 * length rows.options.categories

-- of the users' count
abbrev pub users_place : Rows → ℕ
users_place rows = groups_place rows + 24 * length rows.groups

-- behind the classes' count
abbrev pub classes_place : Rows → ℕ
classes_place rows = users_place rows + 6 + sum_by user_width rows.users

-- all behind those of the groups: some user who isn't revoked has SPECIAL, and the facts of users and classes
abbrev pub later_facts : Rows → List Fact
later_facts rows =
    (told (users_place rows) (list_any is_special_user rows.users) ∷ [])
    ++ told_of_each user_width (user_facts rows) (users_place rows + 4) rows.users
    ++ told_of_each class_width (class_facts rows) (classes_place rows) rows.classes

abbrev pub facts : Rows → List Fact
facts rows = told_of_each group_width (group_facts rows) (groups_place rows) rows.groups ++ later_facts rows

-- The place of the first that doesn't hold.
abbrev pub first_broken : List Fact → Option ℕ
first_broken facts = option_map (λ (fact : Fact). fact.place) (find (λ (fact : Fact). not fact.holds) facts)
