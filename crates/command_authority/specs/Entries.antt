-- Words of the functions that go through an access list.
use Rattle.std.specs.Prelude.{ℕ, Bool, false, ◌&&◌, List, bytes_eq}
use Rattle.std.specs.List.{list_any}
use Rattle.access_levels.specs.declared.entries.Who.{Who}
use Rattle.access_levels.specs.declared.entries.Who.TheVariants.{Star, Named}
use Rattle.access_levels.specs.declared.entries.Entry.{Entry}
use Rattle.access_levels.specs.declared.levels.Level.TheVariants.{Alter}
use Rattle.access_levels.specs.Level.{suffices}
use Rattle.racf_profiles.specs.declared.users.User.{User}
use Rattle.racf_profiles.specs.declared.users.Connect.{Connect as Connection}
use Rattle.command_authority.specs.Held.{counting}

-- The user is in the group, by a connection that counts.
abbrev pub is_in : User → List ℕ → Bool
is_in user group = list_any (λ (connection : Connection). bytes_eq group connection.group) (counting user)

-- Whom an entry is for is a group of the user.
abbrev pub is_for_group : User → Who → Bool
is_for_group user Star = false
is_for_group user (Named id) = is_in user id

-- The entry gives ALTER to a group of the user.
abbrev pub gives_group_alter : User → Entry → Bool
gives_group_alter user entry = suffices entry.level Alter && is_for_group user entry.who
