-- The cases of the standard list, by what the list gives to the user.
use Rattle.std.specs.Prelude.{ℕ, Bool, true, false, ◌&&◌, not, List, [], ◌∷◌, Option, option_and_then, slice_get, if◌then◌else◌}
use Rattle.access_levels.specs.declared.levels.Level.{Level}
use Rattle.access_levels.specs.declared.levels.Level.TheVariants.{NoAccess}
use Rattle.access_levels.specs.declared.entries.CondEntry.{CondEntry}
use Rattle.access_levels.specs.Level.{suffices}
use Rattle.access_lists.specs.declared.answers.Found.{Found}
use Rattle.access_lists.specs.declared.answers.Found.TheVariants as found
use Rattle.access_lists.specs.Answers as lists
use Rattle.racf_profiles.specs.declared.profiles.Profile.{Profile}
use Rattle.racf_profiles.specs.declared.options.Options.{Options}
use Rattle.acee.specs.declared.acee.Acee.{Acee}
use Rattle.decision.specs.declared.answer.Answer.{Answer}
use Rattle.decision.specs.declared.outcome.Rule.TheVariants as rule
use Rattle.decision.specs.Table.{case, with, higher, considered, first_answer}

-- What p's standard list gives.
abbrev pub listed : Options → Acee → Profile → Found
listed options acee profile = lists.answered acee.user (considered options acee) acee.attributes.restricted profile.standard

-- Neither the user nor a considered group has an entry.
abbrev pub is_open : Found → Bool
is_open (found.User level) = false
is_open (found.Group group level) = false
is_open (found.Star level) = true
is_open found.Nothing = true

-- The cases 8 to 11.
abbrev pub uacc_case : Bool → Level → Level → Option Answer
uacc_case restricted uacc asked = case (not restricted && suffices uacc asked) rule.Uacc 0 uacc

abbrev pub entry_case : Found → Bool → Level → Level → Option Answer
entry_case (found.User level) restricted uacc asked = case (suffices level asked) rule.UserEntry 0 level
entry_case (found.Group group level) restricted uacc asked = case (suffices level asked) (rule.GroupEntry group) 0 level
entry_case (found.Star level) restricted uacc asked = first_answer (case (suffices level asked) rule.Star 0 level ∷ uacc_case restricted uacc asked ∷ [])
entry_case found.Nothing restricted uacc asked = uacc_case restricted uacc asked

-- The standing level.
abbrev pub standing_with : Found → Bool → Level → Level
standing_with (found.User level) restricted uacc = level
standing_with (found.Group group level) restricted uacc = level
standing_with (found.Star level) restricted uacc = if restricted then NoAccess else higher uacc level
standing_with found.Nothing restricted uacc = if restricted then NoAccess else higher uacc NoAccess

-- The cases 13 and 14, where the class allows OPERATIONS and neither entry exists.
abbrev pub operations_cases : Bool → Bool → Option (List ℕ) → Level → List (Option Answer)
operations_cases may operations over standing = case (may && operations) rule.Operations 0 standing ∷ with over (λ group. case may (rule.GroupOperations group) 0 standing) ∷ []

-- The case 12.
abbrev pub conditional_case : Options → Acee → List CondEntry → Level → Option Answer
conditional_case options acee list asked = with (option_and_then (λ place. slice_get list place) (lists.answered_when acee.port acee.user (considered options acee) acee.attributes.restricted list)) (λ entry. case (suffices entry.level asked) (rule.Conditional entry.condition) 0 entry.level)
