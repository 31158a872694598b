-- An AUDIT line is one line.
use Rattle.std.proofs.Common.{ℕ, List, ◌++◌, refl}
use Rattle.access_levels.specs.declared.levels.Level.{Level}
use Rattle.access_levels.specs.declared.levels.Level.TheVariants.{NoAccess}
use Rattle.access_levels.specs.Level.{level_name}
use Rattle.generic_names.specs.Spelled.{Spelled}
use Rattle.decision.specs.declared.outcome.Decision.{Decision}
use Rattle.audit_records.specs.declared.line.Outcome.{Outcome}
use Rattle.audit_records.specs.declared.line.Outcome.TheVariants.{Success}
use Rattle.audit_records.specs.Line.{outcome_of, outcome_word, spaced, audit_line}
use Rattle.audit_records.specs.Feedless.{IsFeedless}
use Rattle.audit_records.specs.OneLine.{IsAuditLine}
use Rattle.audit_records.proofs.Feedless.{joined}

pub level-words : (level : Level) → IsFeedless (level_name level)
level-words NoAccess = refl
level-words other = refl

outcome-words : (outcome : Outcome) → IsFeedless (outcome_word outcome)
outcome-words Success = refl
outcome-words other = refl

spaced-words : (front word : List ℕ) → IsFeedless front → IsFeedless word → IsFeedless (front ++ spaced word)
spaced-words front word h k = joined front (spaced word) h k

audit-words : (decision : Decision) (user class : List ℕ) (name : Spelled) (asked : Level) → IsFeedless user → IsFeedless class → IsFeedless name.text
    → IsFeedless (outcome_word (outcome_of decision) ++ spaced user ++ spaced class ++ spaced name.text ++ spaced (level_name asked))
audit-words decision user class name asked u c n =
    let outcome = outcome_word (outcome_of decision) in
    spaced-words (outcome ++ spaced user ++ spaced class ++ spaced name.text) (level_name asked)
    (spaced-words (outcome ++ spaced user ++ spaced class) name.text
    (spaced-words (outcome ++ spaced user) class (spaced-words outcome user (outcome-words (outcome_of decision)) u) c) n) (level-words asked)

pub audit-line : (decision : Decision) (user class : List ℕ) (name : Spelled) (asked : Level) → IsFeedless user → IsFeedless class → IsFeedless name.text → IsAuditLine (audit_line decision user class name asked)
unfolding audit_line
audit-line decision user class name asked u c n = record { words = _; no_feed = audit-words decision user class name asked u c n; is_line = refl }
