-- The line that is printed of a decision.
use Rattle.std.specs.Prelude.{ℕ, ◌==◌, List, ◌++◌, codes, if◌then◌else◌}
use Rattle.access_levels.specs.declared.levels.Level.{Level}
use Rattle.access_levels.specs.Level.{level_name}
use Rattle.generic_names.specs.Spelled.{Spelled}
use Rattle.decision.specs.declared.outcome.Decision.{Decision}
use Rattle.decision.specs.Table.{is_warning}
use Rattle.audit_records.specs.declared.line.Outcome.{Outcome}
use Rattle.audit_records.specs.declared.line.Outcome.TheVariants.{Success, Failure, Undecided, Warning}

-- A warning is told as such, though its code is that of a success.
abbrev pub outcome_of_code : (rc : ℕ) → Outcome
outcome_of_code rc = if rc == 0 then Success else if rc == 8 then Failure else Undecided

abbrev pub outcome_of : Decision → Outcome
outcome_of decision = if is_warning decision.rule then Warning else outcome_of_code decision.rc

abbrev pub outcome_word : Outcome → List ℕ
outcome_word Success = codes "SUCCESS"
outcome_word Failure = codes "FAILURE"
outcome_word Undecided = codes "UNDECIDED"
outcome_word Warning = codes "WARNING"

-- A blank, and a word.
abbrev pub spaced : List ℕ → List ℕ
spaced word = codes " " ++ word

-- How it came out, for whom, of which class and name, and the level that was asked.
unfoldable pub audit_line : Decision → (user class : List ℕ) → (name : Spelled) → (asked : Level) → List ℕ
audit_line decision user class name asked = codes "AUDIT" ++ spaced (outcome_word (outcome_of decision)) ++ spaced user ++ spaced class ++ spaced name.text ++ spaced (level_name asked) ++ codes "\n"
