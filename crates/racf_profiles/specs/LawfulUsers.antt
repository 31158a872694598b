-- What holds of the users of every database.
use Rattle.std.specs.Prelude.{◌≡◌, ℕ, ◌≤◌, ◌<◌, nat_le, Bool, true, ◌&&◌, not, List, length, map, None, IsTrue, IsSome, codes, bytes_eq}
use Rattle.std.specs.List.{AllByRecursion, IsDistinct, list_all}
use Rattle.access_levels.specs.Category.{is_member}
use Rattle.racf_profiles.specs.declared.users.User.{User}
use Rattle.racf_profiles.specs.declared.users.Connect.{Connect as Connection}
use Rattle.racf_profiles.specs.declared.options.Options.{Options}
use Rattle.racf_profiles.specs.declared.rows.Rows.{Rows}
use Rattle.racf_profiles.specs.Limits.{most_users, most_connections}
use Rattle.racf_profiles.specs.Lookup.{group_of}
use Rattle.racf_profiles.specs.Names.{is_class_word, is_connected_to}

-- No two users have one ID, and they aren't too many.
pub record AreUsers (users : List User) : Type 0 where
  pub distinct : IsDistinct bytes_eq (map (λ (user : User). user.id) users)
  pub few : length users ≤ most_users

-- A user's name has at most 20 bytes, from a blank to `~`.
abbrev pub is_printable : ℕ → Bool
is_printable byte = nat_le 32 byte && nat_le byte 126

abbrev pub is_user_name : List ℕ → Bool
is_user_name name = nat_le (length name) 20 && list_all is_printable name

-- Each number of a set is the place of a category among those ever defined.
abbrev pub AreDefined : Options → ℕ → Type 0
AreDefined options categories = (n : ℕ) → is_member categories n ≡ true → n < length options.categories

-- A class in which a user may define profiles (CLAUTH): the word USER, or a class of the table other than DATASET.
abbrev pub is_clauth_class : Rows → List ℕ → Bool
is_clauth_class rows name = is_class_word rows name && not (bytes_eq name (codes "DATASET"))

-- The user's connections are to groups that are there, to each at most once, and one is to the default group.
pub record AreConnections (rows : Rows) (user : User) : Type 0 where
  pub distinct : IsDistinct bytes_eq (map (λ (connection : Connection). connection.group) user.connects)
  pub there : AllByRecursion (λ (connection : Connection). IsSome (group_of connection.group rows)) user.connects
  pub default : IsTrue (is_connected_to user.default_group user)
  pub few : length user.connects ≤ most_connections

-- What holds of one user: no group has the name, the connections and the classes are lawful, and each category is one
-- that was defined.
pub record IsUser (rows : Rows) (user : User) : Type 0 where
  pub no_group : group_of user.id rows ≡ None
  pub name : IsTrue (is_user_name user.name)
  pub connections : AreConnections rows user
  pub classes_distinct : IsDistinct bytes_eq user.classes
  pub classes_there : IsTrue (list_all (is_clauth_class rows) user.classes)
  pub categories : AreDefined rows.options user.categories
