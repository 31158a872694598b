-- What LOGOPTIONS holds: words, each with the classes that are logged so.
use Rattle.std.specs.Prelude.{ℕ, ◌==◌, List, [], ◌∷◌, Bool, true, ◌&&◌, nat_lt, find, codes, bytes_eq, if◌then◌else◌, Option, None, Some}
use Rattle.std.specs.List.{list_all, list_any}
use Rattle.racf_profiles.specs.declared.class_rows.LogOption.{LogOption}
use Rattle.racf_profiles.specs.declared.class_rows.LogOption.TheVariants as log
use Rattle.command_fields.specs.declared.log_clauses.LogClause.{LogClause}

abbrev pub log_option_name : LogOption → List ℕ
log_option_name log.Always = codes "ALWAYS"
log_option_name log.Never = codes "NEVER"
log_option_name log.Successes = codes "SUCCESSES"
log_option_name log.Failures = codes "FAILURES"
log_option_name log.ByProfile = codes "DEFAULT"

-- The words apply in this order, whatever their order in the text.
abbrev pub log_options : List LogOption
log_options = log.Always ∷ log.Never ∷ log.Successes ∷ log.Failures ∷ log.ByProfile ∷ []

abbrev pub log_option_rank : LogOption → ℕ
log_option_rank log.Always = 0
log_option_rank log.Never = 1
log_option_rank log.Successes = 2
log_option_rank log.Failures = 3
log_option_rank log.ByProfile = 4

abbrev pub log_option_of : List ℕ → Option LogOption
log_option_of w = find (λ option. bytes_eq w (log_option_name option)) log_options

abbrev pub applies_before : LogOption → LogOption → Bool
applies_before one other = nat_lt (log_option_rank one) (log_option_rank other)

-- Each word stands at most once.
abbrev pub is_same_option : LogOption → LogOption → Bool
is_same_option one other = log_option_rank one == log_option_rank other

abbrev pub is_given : LogOption → List LogClause → Bool
is_given option clauses = list_any (λ (clause : LogClause). is_same_option clause.option option) clauses

abbrev pub unless_given : List LogClause → Option LogOption → Option LogOption
unless_given clauses None = None
unless_given clauses (Some option) = if is_given option clauses then None else Some option

-- a word with its classes, put before those that apply behind it
abbrev pub applies_behind : LogOption → LogClause → Bool
applies_behind option other = applies_before option other.option

abbrev pub put_clause : LogClause → List LogClause → List LogClause
put_clause clause [] = clause ∷ []
put_clause clause (other ∷ others) = if applies_behind clause.option other then clause ∷ other ∷ others else other ∷ put_clause clause others

abbrev pub is_in_order : List LogClause → Bool
is_in_order [] = true
is_in_order (clause ∷ clauses) = list_all (applies_behind clause.option) clauses && is_in_order clauses
