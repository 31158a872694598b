-- Who and what is there.
use Rattle.std.specs.Prelude.{ℕ, Bool, ◌||◌, ◌&&◌, not, List, [], is_some, sum_by, length, codes, bytes_eq, if◌then◌else◌}
use Rattle.std.specs.List.{list_any}
use Rattle.std.specs.Option.{option_map_or}
use Rattle.racf_profiles.specs.declared.users.User.{User}
use Rattle.racf_profiles.specs.declared.users.Connect.{Connect as Connection}
use Rattle.racf_profiles.specs.declared.rows.Rows.{Rows}
use Rattle.racf_profiles.specs.Lookup.{user_of, group_of, class_of}

-- A user or a group has the name. Users and groups share one name space.
abbrev pub is_taken : List ℕ → Rows → Bool
is_taken id rows = is_some (user_of id rows) || is_some (group_of id rows)

-- A name that CLAUTH takes: a class of the table, or the word USER.
abbrev pub is_class_word : Rows → List ℕ → Bool
is_class_word rows name = bytes_eq name (codes "USER") || is_some (class_of name rows)

-- A connection to the group.
abbrev pub is_to : List ℕ → Connection → Bool
is_to group connection = bytes_eq connection.group group

-- The user is connected to the group.
abbrev pub is_connected_to : List ℕ → User → Bool
is_connected_to group user = list_any (is_to group) user.connects

-- The connections of the user of that ID; none where there is no such user.
abbrev pub connects_of : List ℕ → Rows → List Connection
connects_of id rows = option_map_or (λ (user : User). user.connects) (user_of id rows) []

-- The user may administer everything: he has SPECIAL and isn't revoked. Connections play no part.
abbrev pub is_special_user : User → Bool
is_special_user user = user.attributes.special && not user.attributes.revoked

-- How many such users one user is.
abbrev pub special_user_count : User → ℕ
special_user_count user = if is_special_user user then 1 else 0

abbrev pub special_users : List User → ℕ
special_users users = sum_by special_user_count users

-- To how many groups a user is connected, and all connections of all users.
abbrev pub connected_to : User → ℕ
connected_to user = length user.connects

abbrev pub connections : List User → ℕ
connections users = sum_by connected_to users

-- How many connections a user gets, once he is connected to the group: none where he is.
abbrev pub connections_added : List ℕ → List Connection → ℕ
connections_added group connects = if list_any (is_to group) connects then 0 else 1
