-- How the users are kept: a map from each ID to its user, in order of definition, and counts.
use Rattle.std.specs.Prelude.{◌≡◌, ◌≤◌, map, length}
use Rattle.indexmap.specs.IndexMap.{keys, values, spare}
use Rattle.racf_profiles.specs.declared.users.User.{User}
use Rattle.row_tables.specs.declared.user_table.UserTable.TheInside.{Inside}
use Rattle.row_tables.specs.UserList.{UserList}
use Rattle.racf_profiles.specs.Names.{connections, special_users}
use Rattle.racf_profiles.specs.Limits.{most_users, most_connections_in_all}

abbrev pub users_of : Inside → UserList
users_of table = record { users = values table.users; spare = spare table.users }

-- Each user is kept under his ID, the counts are those of the list, and the limits hold.
pub record IsCounted (table : Inside) : Type 0 where
  pub named : keys table.users ≡ map (λ (user : User). user.id) (values table.users)
  pub connections_counted : table.connections ≡ connections (values table.users)
  pub special_users_counted : table.special_users ≡ special_users (values table.users)
  pub few_users : length (values table.users) ≤ most_users
  pub few_connections : table.connections ≤ most_connections_in_all
