-- Which label dominates which, and what bars a user from a resource by their levels, categories and labels.
use Rattle.std.specs.Prelude.{ℕ, nat_le, nat_lt, Bool, not, ◌&&◌, ◌-◌, ◌^◌, Option, Some, None, is_none, option_map, unwrap_or, if◌then◌else◌}
use Rattle.access_levels.specs.declared.levels.Level.{Level}
use Rattle.access_levels.specs.declared.levels.Level.TheVariants.{Update}
use Rattle.access_levels.specs.Level.{suffices}
use Rattle.access_levels.specs.Category.{first_missing}
use Rattle.seclabels.specs.declared.labels.Label.{Label}
use Rattle.seclabels.specs.declared.labels.Clearance.{Clearance}
use Rattle.seclabels.specs.declared.classified.Classified.{Classified}
use Rattle.seclabels.specs.declared.classified.Classified.TheVariants.{LevelTooLow, CategoryMissing, LabelNotDominant, WriteDown}
use Rattle.seclabels.specs.declared.classified.Checks.{Checks}

-- ---- dominance
-- A set of categories contains another where it misses none that the other has.
abbrev pub contains : (set other : ℕ) → Bool
contains set other = is_none (first_missing set other)

-- A label dominates another where its level is at least the other's and its categories contain the other's.
abbrev pub dominates : (label other : Label) → Bool
dominates label other = nat_le other.level label.level && contains label.categories other.categories

-- SYSHIGH has the highest level and all categories, SYSLOW the level 0 and none.
abbrev pub system_high : Label
system_high = record { level = 255; categories = 2 ^ 256 - 1 }

abbrev pub system_low : Label
system_low = record { level = 0; categories = 0 }

-- ---- what bars a user from a resource
-- A user without a label counts as SYSLOW.
abbrev pub label_of : Clearance → Label
label_of user = unwrap_or user.label system_low

-- Where labels are checked, and the resource has one: the user's must dominate it; under MLS, where he asks to write,
-- it must dominate the user's too, so that nothing is written down.
abbrev pub barred_by_labels : (user resource : Label) → (mls : Bool) → Level → Option Classified
barred_by_labels user resource mls asked =
    if not (dominates user resource) then Some LabelNotDominant
    else if mls && suffices asked Update && not (dominates resource user) then Some WriteDown
    else None

abbrev pub barred_by_label : Label → Option Label → Bool → Level → Option Classified
barred_by_label user None mls asked = None
barred_by_label user (Some resource) mls asked = barred_by_labels user resource mls asked

-- Where levels and categories are checked: the user's level must be at least the resource's, and of the categories that
-- he misses the one of the least number is told.
abbrev pub barred_by_level : (user resource : Clearance) → Option Classified
barred_by_level user resource =
    if nat_lt user.level resource.level then Some LevelTooLow
    else option_map CategoryMissing (first_missing user.categories resource.categories)

-- Labels are checked in the place of levels and categories.
abbrev pub barred : (user resource : Clearance) → Checks → Level → Option Classified
barred user resource checks asked =
    if checks.labels then barred_by_label (label_of user) resource.label checks.mls asked
    else if checks.levels then barred_by_level user resource
    else None
