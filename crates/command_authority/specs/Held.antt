-- What a user holds: his classes, what his connections give him, and what an access list gives him. A revoked
-- connection gives nothing, and the option GRPLIST plays no part.
use Rattle.std.specs.Prelude.{ℕ, Bool, true, false, ◌&&◌, not, nat_le, List, map, bytes_eq}
use Rattle.std.specs.List.{filter, list_any}
use Rattle.access_levels.specs.declared.authorities.GroupAuthority.{GroupAuthority}
use Rattle.access_levels.specs.declared.entries.Entry.{Entry}
use Rattle.access_levels.specs.declared.levels.Level.TheVariants.{Alter}
use Rattle.access_levels.specs.Level.{authority_rank, suffices}
use Rattle.access_lists.specs.declared.answers.Found.{Found}
use Rattle.access_lists.specs.declared.answers.Found.TheVariants as found
use Rattle.access_lists.specs.Answers.{answered}
use Rattle.racf_profiles.specs.declared.users.User.{User}
use Rattle.racf_profiles.specs.declared.users.Connect.{Connect as Connection}

-- Class authority in a class; the word USER stands for the users.
abbrev pub has_class : User → List ℕ → Bool
has_class user class = list_any (λ name. bytes_eq name class) user.classes

-- The connections that count.
abbrev pub counting : User → List Connection
counting user = filter (λ (connection : Connection). not connection.revoked) user.connects

-- The authority of a connection is at least the one that is wanted.
abbrev pub reaches : GroupAuthority → Connection → Bool
reaches wanted connection = nat_le (authority_rank wanted) (authority_rank connection.authority)

-- The user's authority in a group is at least the one that is wanted.
abbrev pub has_authority : User → GroupAuthority → List ℕ → Bool
has_authority user wanted group = list_any (λ (connection : Connection). bytes_eq connection.group group && reaches wanted connection) (counting user)

-- A standard list gives ALTER by the user's entry, or without one by the best entry of his groups. What it gives to
-- everyone doesn't count.
abbrev pub is_alter : Found → Bool
is_alter (found.User level) = suffices level Alter
is_alter (found.Group group level) = suffices level Alter
is_alter (found.Star level) = false
is_alter found.Nothing = false

abbrev pub groups_of : User → List (List ℕ)
groups_of user = map (λ (connection : Connection). connection.group) (counting user)

abbrev pub has_alter : User → List Entry → Bool
has_alter user list = is_alter (answered user.id (groups_of user) true list)
