-- The list of users, and when a user can be put into it.
use Rattle.std.specs.Prelude.{◌≡◌, ℕ, ◌<◌, ◌≤◌, List, length, None, find}
use Rattle.racf_profiles.specs.declared.users.User.{User}
use Rattle.racf_profiles.specs.Lookup.{is_user}
use Rattle.racf_profiles.specs.Edits.{put_row}
use Rattle.racf_profiles.specs.Names.{connections}
use Rattle.racf_profiles.specs.Limits.{most_users, most_connections_in_all}

-- The users in order of definition, and how many can be added without memory.
pub record UserList : Type 0 where
  pub users : List User
  pub spare : ℕ

-- The user of that ID, or room for one more is there, and the limits are kept.
pub record CanPut (list : UserList) (user : User) : Type 0 where
  pub room : find (is_user user.id) list.users ≡ None → 0 < list.spare
  pub few_users : length (put_row (is_user user.id) user list.users) ≤ most_users
  pub few_connections : connections (put_row (is_user user.id) user list.users) ≤ most_connections_in_all
