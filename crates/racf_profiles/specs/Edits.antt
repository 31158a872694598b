-- What edits do to rows.
use Rattle.std.specs.Prelude.{◌≡◌, ℕ, Bool, true, false, ◌&&◌, not, if◌then◌else◌, List, [], ◌∷◌, ◌++◌}
use Rattle.std.specs.List.{AllByRecursion, filter}
use Rattle.generic_names.specs.Spelled.{Spelled}
use Rattle.generic_names.specs.Before.{before}
use Rattle.generic_names.specs.Laws.{IsPattern}
use Rattle.generic_names.specs.declared.kind.NameKind.{NameKind}
use Rattle.racf_profiles.specs.declared.profiles.Profile.{Profile}
use Rattle.racf_profiles.specs.declared.class_rows.ClassRow.{ClassRow}
use Rattle.racf_profiles.specs.declared.class_rows.LogOption.{LogOption}
use Rattle.racf_profiles.specs.declared.class_rows.LogOption.TheVariants.{ByProfile}
use Rattle.racf_profiles.specs.declared.rows.Rows.{Rows}
use Rattle.racf_profiles.specs.declared.edits.Edit.{Edit}
use Rattle.racf_profiles.specs.declared.edits.Edit.TheVariants.{PutUser, DropUser, PutGroup, DropGroup, PutProfile, DropProfile, PutOptions, PutClass, List as ListCopy, Unlist, AddClass, DropClass}
use Rattle.racf_profiles.specs.Lookup.{is_user, is_group, is_class, is_profile}

-- A row in place of the first that it is to replace, or else last.
abbrev pub put_row : {X : Type 0} → (X → Bool) → X → List X → List X
put_row replaces row [] = row ∷ []
put_row replaces row (other ∷ rows) = if replaces other then row ∷ rows else other ∷ put_row replaces row rows

-- The rows without the first that is to go.
abbrev pub drop_row : {X : Type 0} → (X → Bool) → List X → List X
drop_row goes [] = []
drop_row goes (row ∷ rows) = if goes row then rows else row ∷ drop_row goes rows

-- A profile in place of the one of its name, or else before the first that is less specific.
abbrev pub put_profile : Profile → List Profile → List Profile
put_profile profile [] = profile ∷ []
put_profile profile (other ∷ profiles) = if is_profile profile.name other then profile ∷ profiles else (if before profile.name other.name then profile ∷ other ∷ profiles else other ∷ put_profile profile profiles)

-- A change of one class, by its name.
abbrev pub at_class : List ℕ → (ClassRow → ClassRow) → List ClassRow → List ClassRow
at_class name change [] = []
at_class name change (class ∷ classes) = if is_class name class then change class ∷ classes else class ∷ at_class name change classes

abbrev pub with_profile : Profile → ClassRow → ClassRow
with_profile profile class = record class { profiles = put_profile profile class.profiles }

abbrev pub without_profile : Spelled → ClassRow → ClassRow
without_profile name class = record class { profiles = drop_row (is_profile name) class.profiles }

abbrev pub with_flags : Bool → Bool → LogOption → ClassRow → ClassRow
with_flags active global log class = record class { active = active; global = global; log = log }

abbrev pub with_listed : Bool → ClassRow → ClassRow
with_listed listed class = record class { listed = listed }

-- A class that is added: not active, not RACLISTed, GLOBAL off, logged by its profiles, of which there are none.
abbrev pub added_class : List ℕ → ClassRow
added_class name = record { name = name; active = false; listed = false; global = false; log = ByProfile; profiles = [] }

-- The classes without those of that name.
abbrev pub without_class : List ℕ → List ClassRow → List ClassRow
without_class name classes = filter (λ class. not (is_class name class)) classes

-- The rows after an edit.
abbrev pub edited : Edit → Rows → Rows
edited (PutUser user) rows = record rows { users = put_row (is_user user.id) user rows.users }
edited (DropUser id) rows = record rows { users = drop_row (is_user id) rows.users }
edited (PutGroup group) rows = record rows { groups = put_row (is_group group.id) group rows.groups }
edited (DropGroup id) rows = record rows { groups = drop_row (is_group id) rows.groups }
edited (PutProfile class profile) rows = record rows { classes = at_class class (with_profile profile) rows.classes }
edited (DropProfile class name) rows = record rows { classes = at_class class (without_profile name) rows.classes }
edited (PutOptions options) rows = record rows { options = options }
edited (PutClass class active global log) rows = record rows { classes = at_class class (with_flags active global log) rows.classes }
edited (ListCopy class) rows = record rows { classes = at_class class (with_listed true) rows.classes }
edited (Unlist class) rows = record rows { classes = at_class class (with_listed false) rows.classes }
edited (AddClass name) rows = record rows { classes = rows.classes ++ added_class name ∷ [] }
edited (DropClass name) rows = record rows { classes = without_class name rows.classes }

-- The rows after edits in their order.
abbrev pub changed : List Edit → Rows → Rows
changed [] rows = rows
changed (edit ∷ edits) rows = changed edits (edited edit rows)

-- The profiles of a class stand in order of specificity, each name but once.
abbrev pub comes_first : Spelled → List Profile → Bool
comes_first name [] = true
comes_first name (profile ∷ profiles) = before name profile.name

abbrev pub is_in_order : List Profile → Bool
is_in_order [] = true
is_in_order (profile ∷ profiles) = comes_first profile.name profiles && is_in_order profiles

-- They have lawful names of one kind.
abbrev pub AreNamed : NameKind → List Profile → Type 0
AreNamed kind profiles = AllByRecursion (λ (profile : Profile). IsPattern profile.name × (profile.name.kind ≡ kind)) profiles
