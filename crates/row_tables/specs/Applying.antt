-- When edits can be made without memory.
use Rattle.std.specs.Prelude.{◌≡◌, ◌≢◌, ◌⊎◌, ℕ, ◌-◌, ◌<◌, ◌≤◌, Bool, true, false, not, ◌&&◌, if◌then◌else◌, length, List, [], ◌∷◌, Some, MatchOption, is_some, IsSome, IsTrue, find}
use Rattle.std.specs.List.{list_any}
use Rattle.std.specs.Str.{bytes_eq}
use Rattle.racf_profiles.specs.declared.groups.Group.{Group}
use Rattle.racf_profiles.specs.declared.class_rows.ClassRow.{ClassRow}
use Rattle.racf_profiles.specs.declared.options.Options.{Options}
use Rattle.racf_profiles.specs.declared.rows.Rows.{Rows}
use Rattle.racf_profiles.specs.declared.edits.Edit.{Edit}
use Rattle.racf_profiles.specs.declared.edits.Edit.TheVariants.{PutUser, DropUser, PutGroup, DropGroup, PutProfile, DropProfile, PutOptions, PutClass, List as ListCopy, Unlist, AddClass, DropClass}
use Rattle.racf_profiles.specs.NewDatabase.{sys1}
use Rattle.racf_profiles.specs.Lookup.{is_user, is_class, find_group, profile_of}
use Rattle.racf_profiles.specs.Edits.{edited}
use Rattle.racf_profiles.specs.Limits.{most_categories}
use Rattle.group_tree.specs.Groups.{GroupTree}
use Rattle.group_tree.specs.Answers.{CanAdd, CanMove, CanRemove}
use Rattle.class_profiles.specs.Classes.{CanPutIn, CanAddClass, CanDropClass, room_in}
use Rattle.row_tables.specs.UserList.{CanPut}
use Rattle.row_tables.specs.Tables.{Tables, users_in, groups_in, classes_in}

-- A group that isn't there can be added without memory.
pub record CanAddGroup (tree : GroupTree) (group : Group) : Type 0 where
  pub below : IsSome group.superior
  pub can : (superior : List ℕ) → group.superior ≡ Some superior → CanAdd tree.groups group.id superior
  pub room : 0 < tree.spare

-- A group that is there can get another superior group.
pub record CanMoveGroup (groups : List Group) (group : Group) : Type 0 where
  pub below : IsSome group.superior
  pub can : (superior : List ℕ) → group.superior ≡ Some superior → CanMove groups group.id superior
  pub no_root : group.id ≢ sys1.id

-- A group can be put: it is new and can be added, or it is there and stays where it is, or can move.
abbrev pub CanPutGroup : GroupTree → Group → Type 0
CanPutGroup tree group = MatchOption (find_group tree.groups group.id) (CanAddGroup tree group) (λ (old : Group). (old.superior ≡ group.superior) ⊎ CanMoveGroup tree.groups group)

-- A group can be taken away.
pub record CanDropGroup (groups : List Group) (id : List ℕ) : Type 0 where
  pub can : CanRemove groups id
  pub no_root : id ≢ sys1.id

-- The options name no more categories than there may be.
abbrev pub HasFewCategories : Options → Type 0
HasFewCategories options = length options.categories ≤ most_categories

-- One edit can be made without memory.
abbrev pub CanMake : Tables → Edit → Type 0
CanMake tables (PutUser user) = CanPut (users_in tables) user
CanMake tables (DropUser id) = Unit {0}
CanMake tables (PutGroup group) = CanPutGroup (groups_in tables) group
CanMake tables (DropGroup id) = CanDropGroup tables.rows.groups id
CanMake tables (PutProfile class profile) = CanPutIn (classes_in tables) class profile
CanMake tables (DropProfile class name) = Unit {0}
CanMake tables (PutOptions options) = HasFewCategories options
CanMake tables (PutClass class active global log) = Unit {0}
CanMake tables (ListCopy class) = Unit {0}
CanMake tables (Unlist class) = Unit {0}
CanMake tables (AddClass class) = CanAddClass (classes_in tables) class
CanMake tables (DropClass class) = CanDropClass (classes_in tables) class

-- ---- what an edit puts takes the room for one
abbrev pub puts_user : Edit → Bool
puts_user (PutUser user) = true
puts_user edit = false

abbrev pub puts_group : Edit → Bool
puts_group (PutGroup group) = true
puts_group edit = false

abbrev pub puts_into : List ℕ → Edit → Bool
puts_into name (PutProfile class profile) = bytes_eq class name
puts_into name edit = false

abbrev pub adds_class : Edit → Bool
adds_class (AddClass class) = true
adds_class edit = false

-- An edit that changes which classes there are.
abbrev pub changes_classes : Edit → Bool
changes_classes (AddClass class) = true
changes_classes (DropClass class) = true
changes_classes edit = false

abbrev pub one_less : Bool → ℕ → ℕ
one_less puts room = if puts then room - 1 else room

-- the room in each class, by an edit
abbrev pub less_room : Edit → List ClassRow → List ℕ → List ℕ
less_room edit [] spare = spare
less_room edit (class ∷ classes) [] = []
less_room edit (class ∷ classes) (n ∷ spare) = one_less (puts_into class.name edit) n ∷ less_room edit classes spare

-- Behind an edit that changes which classes there are no room is told of.
abbrev pub room_left : Edit → List ClassRow → List ℕ → List ℕ
room_left edit classes spare = if changes_classes edit then [] else less_room edit classes spare

-- The tables after an edit: the rows that it makes, and the room that is left at least.
abbrev pub tables_after : Edit → Tables → Tables
tables_after edit tables = record {
  rows = edited edit tables.rows;
  spare_users = one_less (puts_user edit) tables.spare_users;
  spare_groups = one_less (puts_group edit) tables.spare_groups;
  spare_profiles = room_left edit tables.rows.classes tables.spare_profiles;
  more_classes = one_less (adds_class edit) tables.more_classes;
}

-- The same rows, and no less room.
pub record HasAtLeast (least tables : Tables) : Type 0 where
  pub rows : tables.rows ≡ least.rows
  pub users : least.spare_users ≤ tables.spare_users
  pub groups : least.spare_groups ≤ tables.spare_groups
  pub profiles : (class : List ℕ) → room_in class (classes_in least) ≤ room_in class (classes_in tables)
  pub classes : least.more_classes ≤ tables.more_classes

-- Edits can be made in their order without memory: each to what the ones before it leave.
abbrev pub CanApply : Tables → List Edit → Type 0
CanApply tables [] = Unit {0}
CanApply tables (edit ∷ edits) = CanMake tables edit × CanApply (tables_after edit tables) edits

-- ---- an edit adds a row where it puts one that isn't there, or adds a class
abbrev pub adds : Rows → Edit → Bool
adds rows (PutUser user) = not (is_some (find (is_user user.id) rows.users))
adds rows (PutGroup group) = not (is_some (find_group rows.groups group.id))
adds rows (PutProfile class profile) = not (is_some (profile_of class profile.name rows))
adds rows (AddClass class) = true
adds rows edit = false

abbrev pub adds_user : Rows → Edit → Bool
adds_user rows edit = puts_user edit && adds rows edit

abbrev pub adds_group : Rows → Edit → Bool
adds_group rows edit = puts_group edit && adds rows edit

abbrev pub adds_into : List ℕ → Rows → Edit → Bool
adds_into class rows edit = puts_into class edit && adds rows edit

-- Where edits add users, groups or profiles of a class, there is room for this many of them; where they add a class,
-- there is room for one.
pub record HasRoomFor (more : ℕ) (edits : List Edit) (tables : Tables) : Type 0 where
  pub users : IsTrue (list_any (adds_user tables.rows) edits) → more ≤ tables.spare_users
  pub groups : IsTrue (list_any (adds_group tables.rows) edits) → more ≤ tables.spare_groups
  pub profiles : (class : List ℕ) → IsTrue (list_any (adds_into class tables.rows) edits) → IsSome (find (is_class class) tables.rows.classes) → more ≤ room_in class (classes_in tables)
  pub classes : IsTrue (list_any adds_class edits) → 0 < tables.more_classes

-- Where edits add rows of a kind, there is room for as many of it as there are edits.
abbrev pub HasRoom : Tables → List Edit → Type 0
HasRoom tables edits = HasRoomFor (length edits) edits tables
