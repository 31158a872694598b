-- What SETROPTS conflicts with.
use Rattle.std.specs.Prelude.{ℕ, Bool, false, not, List, [], ◌∷◌, Option, is_some, find, option_map, bytes_eq, if◌then◌else◌}
use Rattle.std.specs.List.{flat_map}
use Rattle.std.specs.Option.{option_map_or}
use Rattle.racf_profiles.specs.declared.fixed_classes.ClassFacts.{ClassFacts}
use Rattle.racf_profiles.specs.declared.rows.Rows.{Rows}
use Rattle.racf_profiles.specs.DynamicClasses.{facts_in}
use Rattle.racf_profiles.specs.Lookup.{class_of}
use Rattle.racf_profiles.specs.State.{is_listed}
use Rattle.command_fields.specs.declared.log_clauses.LogClause.{LogClause}
use Rattle.command_fields.specs.declared.option_fields.SetRopts.{SetRopts}
use Rattle.command_rules.specs.ProfileEffects.{dataset}
use Rattle.command_rules.specs.declared.conflict.Conflict.{Conflict}
use Rattle.command_rules.specs.declared.conflict.Conflict.TheVariants.{NoClass, NotGeneric, NotListed, ClassFixed}
use Rattle.command_rules.specs.ProfileConflicts.{has_generic}

-- The first of the classes that isn't in the table; has no generic profiles; isn't RACLISTed; or never is.
unfoldable pub absent_class : List (List ℕ) → Rows → Option Conflict
absent_class classes rows = option_map NoClass (find (λ class. not (is_some (class_of class rows))) classes)

unfoldable pub class_without_generic : List (List ℕ) → Rows → Option Conflict
class_without_generic classes rows = option_map NotGeneric (find (λ class. not (has_generic class rows)) classes)

unfoldable pub unlisted_class : List (List ℕ) → Rows → Option Conflict
unlisted_class classes rows = option_map NotListed (find (λ class. not (is_listed class rows)) classes)

abbrev pub may_be_listed : List ℕ → Rows → Bool
may_be_listed class rows = option_map_or (λ (facts : ClassFacts). facts.raclist) (facts_in class rows) false

unfoldable pub never_listed_class : List (List ℕ) → Rows → Option Conflict
never_listed_class classes rows = option_map ClassFixed (find (λ class. not (may_be_listed class rows)) classes)

-- DATASET is never inactive.
unfoldable pub always_active_class : List (List ℕ) → Option Conflict
always_active_class classes = option_map ClassFixed (find (bytes_eq dataset) classes)

-- The classes of LOGOPTIONS, in the order in which they apply.
abbrev pub logged_classes : SetRopts → List (List ℕ)
logged_classes c = flat_map (λ (clause : LogClause). clause.classes) c.logoptions

-- RACLIST with REFRESH, and without it.
abbrev pub refreshed : SetRopts → List (List ℕ)
refreshed c = if c.refresh then c.raclist else []

abbrev pub listed_anew : SetRopts → List (List ℕ)
listed_anew c = if c.refresh then [] else c.raclist

unfoldable pub set_ropts_conflicts : SetRopts → Rows → List (Option Conflict)
set_ropts_conflicts c rows =
    absent_class c.classact rows
    ∷ absent_class c.noclassact rows
    ∷ absent_class c.raclist rows
    ∷ absent_class c.noraclist rows
    ∷ absent_class c.global rows
    ∷ absent_class c.noglobal rows
    ∷ absent_class c.generic rows
    ∷ absent_class (logged_classes c) rows
    ∷ class_without_generic c.generic rows
    ∷ unlisted_class (refreshed c) rows
    ∷ unlisted_class c.noraclist rows
    ∷ always_active_class c.noclassact
    ∷ never_listed_class (listed_anew c) rows
    ∷ []
