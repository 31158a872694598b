-- Which entry of an access list counts for a user and his groups.
use Rattle.std.specs.Prelude.{◌≡◌, ◌⊎◌, ℕ, Bool, false, ◌==◌, ◌||◌, ◌&&◌, nat_lt, if◌then◌else◌, List, [], ◌∷◌, map, Option, Some, None, IfSome, MatchOption, option_map, option_and_then, bytes_eq}
use Rattle.std.specs.List.{AllByRecursion, find, filter, position}
use Rattle.access_levels.specs.declared.entries.Who.{Who}
use Rattle.access_levels.specs.declared.entries.Who.TheVariants.{Star, Named}
use Rattle.access_levels.specs.declared.entries.Entry.{Entry}
use Rattle.access_levels.specs.declared.entries.CondEntry.{CondEntry}
use Rattle.access_levels.specs.declared.entries.Condition.{Condition}
use Rattle.access_levels.specs.declared.levels.Level.{Level}
use Rattle.access_levels.specs.Level.{level_rank}
use Rattle.access_lists.specs.declared.answers.Found.{Found}
use Rattle.access_lists.specs.declared.answers.Found.TheVariants as found
use Rattle.access_lists.specs.declared.best.GroupEntry.{GroupEntry}
use Rattle.access_lists.specs.Lists.{is_for, is_under, is_for_under}

-- The user entry: the one for the user.
abbrev pub user_entry : List ℕ → List Entry → Option Entry
user_entry user list = find (is_for (Named user)) list

-- The star entry: the one for `*`. It counts for nobody who is RESTRICTED.
abbrev pub star_entry : Bool → List Entry → Option Entry
star_entry restricted list = if restricted then None else find (is_for Star) list

-- An entry for one of the groups, with the place of its group in their order; none where the entry isn't for any of
-- them.
abbrev pub for_group : List (List ℕ) → Level → Who → Option GroupEntry
for_group groups level Star = None
for_group groups level (Named id) = option_map (λ place. record { group = id; level = level; place = place }) (position (bytes_eq id) groups)

abbrev pub as_group_entry : List (List ℕ) → Entry → Option GroupEntry
as_group_entry groups entry = for_group groups entry.level entry.who

-- One goes before another where its level is higher, and at the same level where its group is earlier in the order.
abbrev pub goes_before : GroupEntry → GroupEntry → Bool
goes_before entry other = nat_lt (level_rank other.level) (level_rank entry.level) || (level_rank entry.level == level_rank other.level && nat_lt entry.place other.place)

abbrev pub first_of_two : Option GroupEntry → Option GroupEntry → Option GroupEntry
first_of_two None other = other
first_of_two (Some entry) None = Some entry
first_of_two (Some entry) (Some other) = if goes_before other entry then Some other else Some entry

-- The group entry: of those for the groups the one that goes before all others.
abbrev pub group_entry : List (List ℕ) → List Entry → Option GroupEntry
group_entry groups [] = None
group_entry groups (entry ∷ list) = first_of_two (as_group_entry groups entry) (group_entry groups list)

-- It is the entry of the list for one of the groups.
abbrev pub IsAmong : List (List ℕ) → GroupEntry → List Entry → Type 0
IsAmong groups best [] = ⊥
IsAmong groups best (entry ∷ list) = (as_group_entry groups entry ≡ Some best) ⊎ IsAmong groups best list

-- It is one of the entries for the groups, and none of them goes before it.
pub record IsFirst (groups : List (List ℕ)) (list : List Entry) (best : GroupEntry) : Type 0 where
  pub among : IsAmong groups best list
  pub none_before : AllByRecursion (λ entry. IfSome (as_group_entry groups entry) (λ other. goes_before other best ≡ false)) list

-- The group entry is that one, and there is none only where no entry is for one of the groups.
abbrev pub GroupEntryIsFirst : Type 0
GroupEntryIsFirst = (groups : List (List ℕ)) (list : List Entry) → MatchOption (group_entry groups list) (AllByRecursion (λ entry. as_group_entry groups entry ≡ None) list) (IsFirst groups list)

-- The user entry, without one the group entry, without both the star entry.
abbrev pub found_of : Option Entry → Option GroupEntry → Option Entry → Found
found_of (Some entry) group star = found.User entry.level
found_of None (Some entry) star = found.Group entry.group entry.level
found_of None None (Some entry) = found.Star entry.level
found_of None None None = found.Nothing

abbrev pub answered : List ℕ → List (List ℕ) → Bool → List Entry → Found
answered user groups restricted list = found_of (user_entry user list) (group_entry groups list) (star_entry restricted list)

-- The entries of a conditional list under the port, as those of a standard list.
abbrev pub unconditional : CondEntry → Entry
unconditional entry = record { who = entry.who; level = entry.level }

abbrev pub entries_under : Condition → List CondEntry → List Entry
entries_under port list = map unconditional (filter (is_under port) list)

-- Whom the entry that counts is for.
abbrev pub who_counts : List ℕ → Found → Option Who
who_counts user (found.User level) = Some (Named user)
who_counts user (found.Group group level) = Some (Named group)
who_counts user (found.Star level) = Some Star
who_counts user found.Nothing = None

-- The place in the conditional list of the entry under the port that counts by the same rule; none for a user without a
-- port.
abbrev pub answered_when : Option Condition → List ℕ → List (List ℕ) → Bool → List CondEntry → Option ℕ
answered_when None user groups restricted list = None
answered_when (Some port) user groups restricted list = option_and_then (λ who. position (is_for_under port who) list) (who_counts user (answered user groups restricted (entries_under port list)))
