-- Words of the crate's own functions. No public contract rests on them.
use Rattle.std.specs.Prelude.{◌≡◌, ℕ, ◌==◌, Bool, false, ◌&&◌, ◌||◌, List, [], ◌∷◌, Option, Some, None, IfSome, if◌then◌else◌}
use Rattle.generic_names.specs.Best.{more_specific}
use Rattle.generic_names.specs.Spelled.{Spelled, period, percent, asterisk, is_empty}
use Rattle.racf_profiles.specs.declared.profiles.Member.{Member}
use Rattle.global_table.specs.declared.table.Resolved.{Resolved}
use Rattle.global_table.specs.Grants.{resolved, covers_name}

-- the most specific of a member, if it covers the name, and of those behind it
abbrev pub with_member : Spelled → Option Resolved → Option Resolved → Option Resolved
with_member name None behind = behind
with_member name (Some member) behind = if covers_name name member then Some (more_specific (λ m. m.name) member behind) else behind

-- the member covers the name for no user, whatever his group
abbrev pub CoversForNone : Spelled → Member → Type 0
CoversForNone name member = (user group : List ℕ) (place : ℕ) → IfSome (resolved user group place member) (λ m. covers_name name m ≡ false)

-- the first byte of a symbol
abbrev pub ampersand : ℕ
ampersand = 38

-- whether a byte of a member's text may stand for others
abbrev pub stands_for_others : ℕ → Bool
stands_for_others b = (b == percent) || (b == asterisk) || (b == ampersand)

-- Whether the text of a member, up to its first such byte, is that of a name. A name that ends before it may still be
-- covered if a period follows, and `**` behind that.
abbrev pub may_begin : List ℕ → List ℕ → Bool
may_begin [] name = is_empty name
may_begin (a ∷ member) [] = stands_for_others a || (a == period)
may_begin (a ∷ member) (b ∷ name) = stands_for_others a || ((a == b) && may_begin member name)
