-- Whether a decision is logged.
use Rattle.std.specs.Prelude.{ℕ, ◌==◌, Bool, true, false, ◌&&◌, ◌||◌, nat_le, List, Option, if◌then◌else◌}
use Rattle.std.specs.Option.{option_map_or}
use Rattle.access_levels.specs.declared.levels.Level.{Level}
use Rattle.access_levels.specs.Level.{level_rank}
use Rattle.racf_profiles.specs.declared.class_rows.LogOption.{LogOption}
use Rattle.racf_profiles.specs.declared.class_rows.LogOption.TheVariants as log
use Rattle.racf_profiles.specs.State.{State}
use Rattle.raclist_image.specs.declared.flags.ClassOptions.{ClassOptions}
use Rattle.raclist_image.specs.Flags.{options_of}
use Rattle.acee.specs.declared.acee.Acee.{Acee}
use Rattle.decision.specs.declared.outcome.Rule.{Rule}
use Rattle.decision.specs.declared.outcome.Rule.TheVariants as rule
use Rattle.decision.specs.declared.outcome.Audits.{Audits}
use Rattle.decision.specs.declared.outcome.Decision.{Decision}
use Rattle.decision.specs.Table.{is_warning}

-- ---- what the cases ask about

abbrev pub is_global : Rule → Bool
is_global (rule.Global place) = true
is_global _ = false

abbrev pub is_protect_all : Rule → Bool
is_protect_all rule.ProtectAll = true
is_protect_all _ = false

abbrev pub is_always : LogOption → Bool
is_always log.Always = true
is_always _ = false

abbrev pub is_never : LogOption → Bool
is_never log.Never = true
is_never _ = false

-- The option SUCCESSES asks for the code 0, FAILURES for 8.
abbrev pub is_of_option : LogOption → (rc : ℕ) → Bool
is_of_option log.Successes rc = rc == 0
is_of_option log.Failures rc = rc == 8
is_of_option _ rc = false

-- There is such a level, and it is at most the level asked.
abbrev pub is_reached : (asked : Level) → Option Level → Bool
is_reached asked level = option_map_or (λ (level : Level). nat_le (level_rank level) (level_rank asked)) level false

-- There is a profile whose AUDIT or GLOBALAUDIT has such a level, of successes or of failures, and it is reached.
abbrev pub success_reached : (asked : Level) → Option Audits → Bool
success_reached asked audits = option_map_or (λ (audits : Audits). is_reached asked audits.audit.success || is_reached asked audits.global_audit.success) audits false

abbrev pub failures_reached : (asked : Level) → Option Audits → Bool
failures_reached asked audits = option_map_or (λ (audits : Audits). is_reached asked audits.audit.failures || is_reached asked audits.global_audit.failures) audits false

-- ---- the cases, under the log option of the class: the first that fits says whether the decision is logged
module _ (option : LogOption) (acee : Acee) (asked : Level) (fast : Bool) (decision : Decision) where
  abbrev pub logged_under : Bool
  logged_under =
      -- 1 the request is FASTAUTH: no
      if fast then false
      -- 2 the rule is WARNING: yes
      else if is_warning decision.rule then true
      -- 3 the rule is GLOBAL: no
      else if is_global decision.rule then false
      -- 4 the log option is ALWAYS: yes
      else if is_always option then true
      -- 5 it is NEVER: no
      else if is_never option then false
      -- 6 the return code is 4: no
      else if decision.rc == 4 then false
      -- 7 the ACEE has UAUDIT: yes
      else if acee.attributes.uaudit then true
      -- 8 the rule is PROTECTALL: yes
      else if is_protect_all decision.rule then true
      -- 9 the option is SUCCESSES and the code 0, or FAILURES and the code 8: yes
      else if is_of_option option decision.rc then true
      -- 10 the code is 0, and a success level of AUDIT or GLOBALAUDIT is at most the level asked: yes
      else if decision.rc == 0 && success_reached asked decision.audits then true
      -- 11 the code is 8, and a failures level of one of the two is at most the level asked: yes
      else if decision.rc == 8 && failures_reached asked decision.audits then true
      -- 12 else: no
      else false

-- What isn't a class has no log option, and is never logged.
unfoldable pub logged : State → Acee → (class : List ℕ) → (asked : Level) → (fast : Bool) → Decision → Bool
logged state acee class asked fast decision = option_map_or (λ (options : ClassOptions). logged_under options.log acee asked fast decision) (options_of class state) false
