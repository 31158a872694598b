-- The decision on a request: the first case of the table that fits. FASTAUTH has cases of its own before a profile is
-- asked.
use Rattle.std.specs.Prelude.{ℕ, Bool, true, false, ◌&&◌, not, List, [], ◌∷◌, find, Option, Some, None, is_some, option_map, option_and_then, unwrap_or, nat_lt, slice_get, codes, bytes_eq, if◌then◌else◌}
use Rattle.std.specs.Option.{option_map_or}
use Rattle.access_levels.specs.declared.levels.Level.{Level}
use Rattle.access_levels.specs.declared.levels.Level.TheVariants.{NoAccess}
use Rattle.access_levels.specs.declared.entries.Entry.{Entry}
use Rattle.access_levels.specs.declared.entries.CondEntry.{CondEntry}
use Rattle.access_levels.specs.Level.{level_rank, suffices}
use Rattle.access_lists.specs.declared.best.GroupEntry.{GroupEntry}
use Rattle.access_lists.specs.Answers as lists
use Rattle.generic_names.specs.Spelled.{Spelled, first_qualifier}
use Rattle.racf_profiles.specs.declared.profiles.Profile.{Profile}
use Rattle.racf_profiles.specs.declared.class_rows.ClassRow.{ClassRow}
use Rattle.racf_profiles.specs.declared.options.Options.{Options}
use Rattle.racf_profiles.specs.declared.rows.Rows.{Rows}
use Rattle.racf_profiles.specs.Lookup.{class_of}
use Rattle.racf_profiles.specs.DynamicClasses.{allows_operations}
use Rattle.racf_profiles.specs.State.{State, is_listed}
use Rattle.global_table.specs.declared.table.Grant.{Grant}
use Rattle.global_table.specs.Grants.{granted}
use Rattle.group_tree.specs.ScopeTest.{is_profile_in_scope}
use Rattle.raclist_image.specs.GlobalMembers.{global_members}
use Rattle.acee.specs.declared.acee.Acee.{Acee}
use Rattle.acee.specs.declared.groups.AceeGroup.{AceeGroup}
use Rattle.acee.specs.Groups.{group_names}
use Rattle.acee.specs.Verify.{is_active}
use Rattle.seclabels.specs.declared.classified.Classified.{Classified}
use Rattle.decision.specs.declared.outcome.Rule.{Rule}
use Rattle.decision.specs.declared.outcome.Rule.TheVariants as rule
use Rattle.decision.specs.declared.outcome.Audits.{Audits}
use Rattle.decision.specs.declared.outcome.Decision.{Decision}
use Rattle.decision.specs.declared.answer.Answer.{Answer}
use Rattle.decision.specs.Classification.{profile_for, classified}

-- ---- what the cases ask about

abbrev pub is_dataset : List ℕ → Bool
is_dataset class = bytes_eq class (codes "DATASET")

-- The considered groups are all groups of the ACEE while GRPLIST is on, else its current group alone.
abbrev pub considered : Options → Acee → List (List ℕ)
considered options acee = if options.grplist then group_names acee.groups else acee.current ∷ []

abbrev pub is_considered : Options → Acee → AceeGroup → Bool
is_considered options acee group = if options.grplist then true else bytes_eq group.group acee.current

-- The first considered group that has group-OPERATIONS and in whose scope a profile of that owner is.
abbrev pub operating_over : Rows → Acee → (owner : List ℕ) → Option (List ℕ)
operating_over rows acee owner = option_map (λ (group : AceeGroup). group.group) (find (λ (group : AceeGroup). is_considered rows.options acee group && group.operations && is_profile_in_scope rows group.group owner) acee.groups)

-- The user entry, the group entry and the `*` entry of p's standard list; the last doesn't count for a RESTRICTED user.
abbrev pub user_entry : Acee → Profile → Option Entry
user_entry acee profile = lists.user_entry acee.user profile.standard

abbrev pub group_entry : Options → Acee → Profile → Option GroupEntry
group_entry options acee profile = lists.group_entry (considered options acee) profile.standard

abbrev pub star_entry : Acee → Profile → Option Entry
star_entry acee profile = lists.star_entry acee.attributes.restricted profile.standard

-- The entry of p's conditional list, under the ACEE's port, that counts for the user by the same rule.
abbrev pub conditional_entry : Options → Acee → Profile → Option CondEntry
conditional_entry options acee profile = option_and_then (λ place. slice_get profile.conditional place) (lists.answered_when acee.port acee.user (considered options acee) acee.attributes.restricted profile.conditional)

-- The standing level is the user entry's; without one, the group entry's; without both, NONE for a RESTRICTED user and
-- else the higher of the `*` entry and the UACC.
abbrev pub higher : Level → Level → Level
higher level other = if nat_lt (level_rank level) (level_rank other) then other else level

abbrev pub everyones_level : Acee → Profile → Level
everyones_level acee profile = if acee.attributes.restricted then NoAccess else higher profile.uacc (option_map_or (λ (entry : Entry). entry.level) (star_entry acee profile) NoAccess)

abbrev pub standing_of : Option Entry → Option GroupEntry → Level → Level
standing_of (Some entry) group everyones = entry.level
standing_of None (Some group) everyones = group.level
standing_of None None everyones = everyones

abbrev pub standing : Options → Acee → Profile → Level
standing options acee profile = standing_of (user_entry acee profile) (group_entry options acee profile) (everyones_level acee profile)

-- The class uses its global access table.
abbrev pub uses_global : List ℕ → Rows → Bool
uses_global class rows = option_map_or (λ (row : ClassRow). row.global) (class_of class rows) false

-- What the global access table of the class gives to the user and its current group, where that is the level asked.
abbrev pub granted_to : Rows → Acee → (class : List ℕ) → (name : Spelled) → (asked : Level) → Option Grant
granted_to rows acee class name asked = granted (global_members class rows) acee.user acee.current name asked

-- ---- the table

-- A case with its answer (its rule, its return code, and the level that it found), which it gives where it fits.
abbrev pub case : Bool → Rule → ℕ → Level → Option Answer
case fits rule rc found = if fits then Some record { rule = rule; rc = rc; found = found } else None

-- A case that speaks of an entry or a group fits only where there is one.
abbrev pub with : {X : Type 0} → Option X → (X → Option Answer) → Option Answer
with thing of_it = option_and_then of_it thing

-- The answer of the first case that fits.
abbrev pub first_answer : List (Option Answer) → Option Answer
first_answer [] = None
first_answer (None ∷ cases) = first_answer cases
first_answer (Some answer ∷ cases) = Some answer

-- A case that fits where no case before it does.
abbrev pub else_case : Rule → ℕ → Level → Answer
else_case rule rc found = record { rule = rule; rc = rc; found = found }

-- Before a profile is asked:
abbrev pub cases_of_class : Rows → Acee → (class : List ℕ) → (name : Spelled) → (asked : Level) → List (Option Answer)
cases_of_class rows acee class name asked =
    -- 1 NOCLASS: the class isn't in the class table
    case (not (is_some (class_of class rows))) rule.NoClass 4 NoAccess
    -- 2 CLASSOFF: the class isn't active
    ∷ case (not (is_active class rows)) rule.ClassOff 4 NoAccess
    -- 3 GLOBAL: the class has GLOBAL on, class SECLABEL isn't active, the user isn't RESTRICTED, and the most specific
    -- covering member of the class's global table has at least the level asked
    ∷ with (granted_to rows acee class name asked) (λ grant. case (uses_global class rows && not (is_active (codes "SECLABEL") rows) && not acee.attributes.restricted) (rule.Global grant.place) 0 grant.level)
    ∷ []

-- Before a profile is asked, in FASTAUTH:
abbrev pub fast_cases_of_class : Rows → List ℕ → List (Option Answer)
fast_cases_of_class rows class =
    -- NOCLASS and CLASSOFF, as above
    case (not (is_some (class_of class rows))) rule.NoClass 4 NoAccess
    ∷ case (not (is_active class rows)) rule.ClassOff 4 NoAccess
    -- NOTLISTED: the class isn't RACLISTed
    ∷ case (not (is_listed class rows)) rule.NotListed 4 NoAccess
    ∷ []

-- Where there is no p:
abbrev pub cases_without_profile : Options → List ℕ → List (Option Answer)
cases_without_profile options class =
    -- 4 PROTECTALL: there is no p, the class is DATASET and PROTECTALL is on
    case (is_dataset class && options.protectall) rule.ProtectAll 8 NoAccess
    ∷ []

-- 5 NOPROFILE: there is no p
abbrev pub no_profile : Answer
no_profile = else_case rule.NoProfile 4 NoAccess

-- Where there is a p, and the classification check fails for this reason or passes:
module _ (bar : Option Classified) (rows : Rows) (acee : Acee) (class : List ℕ) (name : Spelled) (asked : Level) (p : Profile) where
  -- neither the user nor a considered group has an entry
  abbrev pub has_neither : Bool
  has_neither = not (is_some (user_entry acee p)) && not (is_some (group_entry rows.options acee p))

  abbrev pub cases_with_profile : List (Option Answer)
  cases_with_profile =
      -- 6 CLASSIFIED: the classification check fails
      with bar (λ why. case true (rule.Classified why) 8 NoAccess)
      -- 7 OWNDATA: the class is DATASET and the name's first qualifier is the user ID
      ∷ case (is_dataset class && bytes_eq (first_qualifier name.text) acee.user) rule.OwnData 0 NoAccess
      -- 8 USER: there is a user entry and it suffices
      ∷ with (user_entry acee p) (λ entry. case (suffices entry.level asked) rule.UserEntry 0 entry.level)
      -- 9 GROUP: there is no user entry, and the group entry suffices
      ∷ with (group_entry rows.options acee p) (λ entry. case (not (is_some (user_entry acee p)) && suffices entry.level asked) (rule.GroupEntry entry.group) 0 entry.level)
      -- 10 STAR: neither entry exists, the user isn't RESTRICTED, the `*` entry suffices
      ∷ with (star_entry acee p) (λ entry. case (has_neither && not acee.attributes.restricted && suffices entry.level asked) rule.Star 0 entry.level)
      -- 11 UACC: neither entry exists, the user isn't RESTRICTED, the UACC suffices
      ∷ case (has_neither && not acee.attributes.restricted && suffices p.uacc asked) rule.Uacc 0 p.uacc
      -- 12 CONDITIONAL: the entry of the conditional list under the ACEE's port that counts for the user suffices
      ∷ with (conditional_entry rows.options acee p) (λ entry. case (suffices entry.level asked) (rule.Conditional entry.condition) 0 entry.level)
      -- 13 OPERATIONS: the class allows OPERATIONS, neither entry exists, the ACEE has OPERATIONS
      ∷ case (allows_operations class rows && has_neither && acee.attributes.operations) rule.Operations 0 (standing rows.options acee p)
      -- 14 GROUPOPS: the class allows OPERATIONS, neither entry exists, a considered group (the first) has
      -- group-OPERATIONS and p is in scope of it
      ∷ with (operating_over rows acee p.owner) (λ group. case (allows_operations class rows && has_neither) (rule.GroupOperations group) 0 (standing rows.options acee p))
      -- 15 WARNING: p has WARNING
      ∷ case p.warning rule.Warning 0 (standing rows.options acee p)
      ∷ []

  -- 16 INSUFFICIENT: else
  abbrev pub insufficient : Answer
  insufficient = else_case rule.Insufficient 8 (standing rows.options acee p)

-- ---- the decision

abbrev pub is_warning : Rule → Bool
is_warning rule.Warning = true
is_warning _ = false

-- What a profile asks to be logged.
abbrev pub audits_of : Profile → Audits
audits_of p = record { audit = p.audit; global_audit = p.global_audit }

-- The decision of an answer, with the name of a profile and what that asks to be logged or with neither, at a
-- generation.
abbrev pub decision_with : ℕ → Option Spelled → Option Audits → Answer → Decision
decision_with generation profile audits answer = record {
  rc = answer.rc;
  rule = answer.rule;
  profile = profile;
  audits = audits;
  found = answer.found;
  warned = is_warning answer.rule;
  generation = generation;
}

-- It carries what its profile asks to be logged, where there is one.
abbrev pub decision_of : ℕ → Option Profile → Answer → Decision
decision_of generation profile answer = decision_with generation (option_map (λ (p : Profile). p.name) profile) (option_map audits_of profile) answer

abbrev pub answer_without_profile : Options → List ℕ → Answer
answer_without_profile options class = unwrap_or (first_answer (cases_without_profile options class)) no_profile

abbrev pub answer_with_profile : Option Classified → Rows → Acee → List ℕ → Spelled → Level → Profile → Answer
answer_with_profile bar rows acee class name asked p = unwrap_or (first_answer (cases_with_profile bar rows acee class name asked p)) (insufficient bar rows acee class name asked p)

-- The first case that fits decides: one of the class; where there is no p the answer for that; else one of p's.
module _ (state : State) (generation : ℕ) (acee : Acee) (class : List ℕ) (name : Spelled) (asked : Level) where
  abbrev pub decided_after : Option Answer → (without : Answer) → Option Profile → Decision
  decided_after (Some answer) without p = decision_of generation None answer
  decided_after None without None = decision_of generation None without
  decided_after None without (Some p) = decision_of generation (Some p) (answer_with_profile (classified state acee p asked) state.rows acee class name asked p)

  unfoldable pub decided : Decision
  decided = decided_after (first_answer (cases_of_class state.rows acee class name asked)) (answer_without_profile state.rows.options class) (profile_for state class name)

  -- FASTAUTH asks neither the global table nor PROTECTALL.
  unfoldable pub fast_decided : Decision
  fast_decided = decided_after (first_answer (fast_cases_of_class state.rows class)) no_profile (profile_for state class name)
