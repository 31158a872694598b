-- Whether levels, categories or labels bar a user from what a profile protects.
use Rattle.std.specs.Prelude.{ℕ, Option, Some, List, option_map, option_and_then, unwrap_or, codes, bytes_eq, if◌then◌else◌}
use Rattle.access_levels.specs.declared.levels.Level.{Level}
use Rattle.generic_names.specs.Spelled.{Spelled}
use Rattle.generic_names.specs.declared.kind.NameKind.TheVariants.{General}
use Rattle.generic_names.specs.Best.{best}
use Rattle.racf_profiles.specs.declared.profiles.Profile.{Profile}
use Rattle.racf_profiles.specs.declared.rows.Rows.{Rows}
use Rattle.racf_profiles.specs.State.{State, effective}
use Rattle.acee.specs.declared.acee.Acee.{Acee}
use Rattle.acee.specs.Verify.{is_active}
use Rattle.seclabels.specs.declared.labels.Label.{Label}
use Rattle.seclabels.specs.declared.labels.Clearance.{Clearance}
use Rattle.seclabels.specs.declared.classified.Classified.{Classified}
use Rattle.seclabels.specs.declared.classified.Checks.{Checks}
use Rattle.seclabels.specs.Labels.{system_high, system_low, barred}

-- ---- p: the most specific of the effective profiles of the class that cover the name
abbrev pub profile_for : State → List ℕ → Spelled → Option Profile
profile_for state class name = option_and_then (λ profiles. best (λ (profile : Profile). profile.name) profiles name) (effective class state)

-- ---- the values of labels, as they are at the decision
-- The effective profile of a label: in class SECLABEL, where no name is generic.
abbrev pub label_profile : State → List ℕ → Option Profile
label_profile state label = profile_for state (codes "SECLABEL") (record { kind = General; text = label })

-- SYSHIGH and SYSLOW have theirs, also where a profile has such a name; another label has the level and the categories
-- of its profile, and without one it has none.
abbrev pub profile_label : Profile → Label
profile_label p = record { level = p.level; categories = p.categories }

abbrev pub label_value : State → List ℕ → Option Label
label_value state label =
    if bytes_eq label (codes "SYSHIGH") then Some system_high
    else if bytes_eq label (codes "SYSLOW") then Some system_low
    else option_map profile_label (label_profile state label)

-- A label without a value counts as SYSHIGH on a resource, and as SYSLOW on a user.
abbrev pub valued : State → (otherwise : Label) → List ℕ → Label
valued state otherwise label = unwrap_or (label_value state label) otherwise

-- ---- what the user and the resource have
abbrev pub user_clearance : State → Acee → Clearance
user_clearance state acee = record { level = acee.level; categories = acee.categories; label = option_map (valued state system_low) acee.label }

abbrev pub resource_clearance : State → Profile → Clearance
resource_clearance state p = record { level = p.level; categories = p.categories; label = option_map (valued state system_high) p.label }

-- Labels are checked while class SECLABEL is active, levels and categories while SECDATA is.
abbrev pub checks : Rows → Checks
checks rows = record { labels = is_active (codes "SECLABEL") rows; levels = is_active (codes "SECDATA") rows; mls = rows.options.mls }

-- ---- the classification check: why it fails
unfoldable pub classified : State → Acee → Profile → Level → Option Classified
classified state acee p asked = barred (user_clearance state acee) (resource_clearance state p) (checks state.rows) asked
