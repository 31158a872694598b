-- The global access table of a class: what its members stand for, and which of them decides on a name.
use Rattle.std.specs.Prelude.{ℕ, ◌+◌, Bool, ◌&&◌, List, [], ◌∷◌, filter, Option, Some, None, option_map, option_and_then, if◌then◌else◌}
use Rattle.access_levels.specs.declared.levels.Level.{Level}
use Rattle.access_levels.specs.Level.{suffices}
use Rattle.generic_names.specs.Spelled.{Spelled}
use Rattle.generic_names.specs.Resolve.{resolve}
use Rattle.generic_names.specs.Covers.{covers}
use Rattle.generic_names.specs.Best.{most_specific}
use Rattle.racf_profiles.specs.declared.profiles.Member.{Member}
use Rattle.racf_profiles.specs.declared.profiles.Member.TheVariants.{Access, SecurityLevel, Category, Traits}
use Rattle.racf_profiles.specs.LawfulProfiles.{is_of_kind}
use Rattle.global_table.specs.declared.table.Grant.{Grant}
use Rattle.global_table.specs.declared.table.Resolved.{Resolved}

-- For a user and its current group: a member counts as the pattern that it stands for, with `&RACUID` and `&RACGPID`
-- replaced, its level, and its place in the table; one that then has no lawful spelling drops. Levels and categories,
-- the members of SECDATA, give no access.
module _ (user group : List ℕ) where
  abbrev pub resolved : (place : ℕ) → Member → Option Resolved
  resolved place (Access name level) = option_map (λ pattern. record { name = pattern; level = level; place = place }) (resolve name user group)
  resolved place (SecurityLevel name number) = None
  resolved place (Traits traits) = None
  resolved place (Category name) = None

  abbrev pub in_front : Option Resolved → List Resolved → List Resolved
  in_front None members = members
  in_front (Some member) members = member ∷ members

  abbrev pub resolved_from : (place : ℕ) → List Member → List Resolved
  resolved_from place [] = []
  resolved_from place (member ∷ members) = in_front (resolved place member) (resolved_from (place + 1) members)

  -- the whole table, as it counts
  abbrev pub globals : List Member → List Resolved
  globals members = resolved_from 0 members

-- A member covers a name of its own kind as a profile of that name would.
abbrev pub covers_name : Spelled → Resolved → Bool
covers_name name member = is_of_kind member.name.kind name.kind && covers member.name name

-- The most specific of the members that cover the name decides alone, though a less specific one would suffice; of
-- equal ones the first.
abbrev pub deciding : List Resolved → Spelled → Option Resolved
deciding members name = most_specific (λ member. member.name) (filter (covers_name name) members)

-- It grants where its level suffices.
abbrev pub unless_too_low : Level → Resolved → Option Grant
unless_too_low asked member = if suffices member.level asked then Some record { place = member.place; level = member.level } else None

unfoldable pub granted : List Member → (user group : List ℕ) → (name : Spelled) → (asked : Level) → Option Grant
granted members user group name asked = option_and_then (unless_too_low asked) (deciding (globals user group members) name)
