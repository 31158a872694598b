-- What contracts see of the tables.
use Rattle.std.specs.Prelude.{ℕ, List}
use Rattle.racf_profiles.specs.declared.users.User.{User}
use Rattle.racf_profiles.specs.declared.groups.Group.{Group}
use Rattle.racf_profiles.specs.declared.class_rows.ClassRow.{ClassRow}
use Rattle.racf_profiles.specs.declared.options.Options.{Options}
use Rattle.racf_profiles.specs.declared.rows.Rows.{Rows}
use Rattle.group_tree.specs.Groups.{GroupTree}
use Rattle.class_profiles.specs.Classes.{ClassList}
use Rattle.row_tables.specs.UserList.{UserList}

-- The rows, and how many users, groups, profiles of each class, and classes can be added without memory.
pub record Tables : Type 0 where
  pub rows : Rows
  pub spare_users : ℕ
  pub spare_groups : ℕ
  pub spare_profiles : List ℕ
  pub more_classes : ℕ

abbrev pub rows_of : List User → List Group → List ClassRow → Options → Rows
rows_of users groups classes options = record { users = users; groups = groups; classes = classes; options = options }

-- Each table by itself.
abbrev pub users_in : Tables → UserList
users_in tables = record { users = tables.rows.users; spare = tables.spare_users }

abbrev pub groups_in : Tables → GroupTree
groups_in tables = record { groups = tables.rows.groups; spare = tables.spare_groups }

abbrev pub classes_in : Tables → ClassList
classes_in tables = record { classes = tables.rows.classes; spare = tables.spare_profiles; more_classes = tables.more_classes }
