-- The words that are printed for a line of requests. Behind them stands a line feed, and a number in front.
use Rattle.std.specs.Prelude.{ℕ, List, [], ◌++◌, Option, Some, None, unwrap_or, slice_get, codes, decimal}
use Rattle.std.specs.Option.{option_map_or}
use Rattle.access_levels.specs.Level.{level_name, port_class_name}
use Rattle.access_levels.specs.declared.entries.Condition.{Condition}
use Rattle.generic_names.specs.Spelled.{Spelled}
use Rattle.generic_names.specs.declared.fault.NameFault.{NameFault}
use Rattle.generic_names.specs.declared.fault.NameFault.TheVariants as name
use Rattle.racf_profiles.specs.declared.profiles.Member.{Member}
use Rattle.racf_profiles.specs.declared.rows.Rows.{Rows}
use Rattle.racf_profiles.specs.LawfulProfiles.{member_name}
use Rattle.raclist_image.specs.GlobalMembers.{global_members}
use Rattle.acee.specs.declared.request.VerifyFault.{VerifyFault}
use Rattle.acee.specs.declared.request.VerifyFault.TheVariants as verify
use Rattle.decision.specs.declared.outcome.Decision.{Decision}
use Rattle.decision.specs.declared.outcome.Rule.{Rule}
use Rattle.decision.specs.declared.outcome.Rule.TheVariants as rule
use Rattle.seclabels.specs.declared.classified.Classified.{Classified}
use Rattle.seclabels.specs.declared.classified.Classified.TheVariants.{LevelTooLow, CategoryMissing, LabelNotDominant, WriteDown}
use Rattle.request_files.specs.declared.line.LineRefusal.{LineRefusal}
use Rattle.request_files.specs.declared.line.LineRefusal.TheVariants as refusal

-- ---- a line that is refused

-- what is wrong with the name of a resource, with the number of the qualifier or the place in the name. A resource's
-- name has none of the last two faults, which are those of generic names
abbrev pub name_fault_words : NameFault → List ℕ
name_fault_words name.Empty = codes "EMPTY"
name_fault_words name.TooLong = codes "TOOLONG"
name_fault_words (name.EmptyQualifier number) = codes "EMPTYQUALIFIER " ++ decimal number
name_fault_words (name.QualifierTooLong number) = codes "QUALIFIERTOOLONG " ++ decimal number
name_fault_words (name.BadByte place) = codes "BADBYTE " ++ decimal place
name_fault_words (name.StarInside place) = codes "STARINSIDE " ++ decimal place
name_fault_words name.GenericFirst = codes "GENERICFIRST"

abbrev pub refusal_words : LineRefusal → List ℕ
refusal_words (refusal.BadLine place) = codes "BADLINE " ++ decimal place
refusal_words (refusal.NoAcee acee) = codes "NOACEE " ++ acee
refusal_words (refusal.AceeExists acee) = codes "ACEEEXISTS " ++ acee
refusal_words refusal.AceesFull = codes "ACEESFULL"
refusal_words (refusal.BadName acee fault) = codes "BADNAME " ++ name_fault_words fault
refusal_words refusal.LineTooLong = codes "LINETOOLONG"

abbrev pub refused_words : LineRefusal → List ℕ
refused_words refusal = codes "REFUSED " ++ refusal_words refusal

-- ---- VERIFY and DELETE: the return code, and its word. Want of memory has neither, since it is answered to the caller

abbrev pub verified_words : List ℕ
verified_words = codes "0 VERIFIED"

abbrev pub verify_fault_words : VerifyFault → List ℕ
verify_fault_words verify.NotDefined = codes "4 NOTDEFINED"
verify_fault_words verify.NotConnected = codes "20 NOTCONNECTED"
verify_fault_words verify.Revoked = codes "28 REVOKED"
verify_fault_words verify.ConnectRevoked = codes "36 CONNECTREVOKED"
verify_fault_words verify.Port = codes "48 PORT"
verify_fault_words verify.Application = codes "52 APPL"
verify_fault_words verify.Label = codes "56 LABEL"
verify_fault_words verify.NoMemory = []

abbrev pub deleted_words : List ℕ
deleted_words = codes "0 DELETED"

-- ---- AUTH and FASTAUTH: the return code, and the rule that decided

-- the profile that decided
abbrev pub profile_words : Option Spelled → List ℕ
profile_words None = []
profile_words (Some profile) = codes " " ++ profile.text

-- the profile that decided, and the level that was found
abbrev pub found_words : Decision → List ℕ
found_words decision = profile_words decision.profile ++ codes " " ++ level_name decision.found

-- a port of entry, as PERMIT's WHEN names it
abbrev pub port_words : Condition → List ℕ
port_words port = codes "WHEN(" ++ port_class_name port.class ++ codes "(" ++ port.name ++ codes "))"

-- the name of the category of a number, of those that were ever defined, in their order
abbrev pub category_name : (categories : List (List ℕ)) → ℕ → List ℕ
category_name categories number = unwrap_or (slice_get categories number) []

-- why the classification check fails
abbrev pub classified_words : (categories : List (List ℕ)) → Classified → List ℕ
classified_words categories LevelTooLow = codes "LEVEL"
classified_words categories (CategoryMissing number) = codes "CATEGORY " ++ category_name categories number
classified_words categories LabelNotDominant = codes "LABEL"
classified_words categories WriteDown = codes "WRITEDOWN"

-- the member at that place of a global access table, as it was written, without quotes
abbrev pub member_words : List Member → ℕ → List ℕ
member_words members place = option_map_or member_name (slice_get members place) []

-- The rows are those that decided: they have the categories that were ever defined, and the global access table of the
-- class.
module _ (rows : Rows) (class : List ℕ) where
  abbrev pub rule_words : Rule → Decision → List ℕ
  rule_words rule.NoClass decision = codes "NOCLASS"
  rule_words rule.ClassOff decision = codes "CLASSOFF"
  rule_words rule.NotListed decision = codes "NOTLISTED"
  rule_words (rule.Global place) decision = codes "GLOBAL " ++ member_words (global_members class rows) place ++ codes " " ++ level_name decision.found
  rule_words rule.NoProfile decision = codes "NOPROFILE"
  rule_words rule.ProtectAll decision = codes "PROTECTALL"
  rule_words (rule.Classified why) decision = codes "CLASSIFIED " ++ classified_words rows.options.categories why ++ profile_words decision.profile
  rule_words rule.OwnData decision = codes "OWNDATA" ++ profile_words decision.profile
  rule_words rule.UserEntry decision = codes "USER" ++ found_words decision
  rule_words (rule.GroupEntry group) decision = codes "GROUP " ++ group ++ found_words decision
  rule_words rule.Star decision = codes "STAR" ++ found_words decision
  rule_words rule.Uacc decision = codes "UACC" ++ found_words decision
  rule_words (rule.Conditional port) decision = codes "CONDITIONAL " ++ port_words port ++ found_words decision
  rule_words rule.Operations decision = codes "OPERATIONS" ++ found_words decision
  rule_words (rule.GroupOperations group) decision = codes "GROUPOPS " ++ group ++ found_words decision
  rule_words rule.Warning decision = codes "WARNING" ++ found_words decision
  rule_words rule.Insufficient decision = codes "INSUFFICIENT" ++ found_words decision

  abbrev pub decision_words : Decision → List ℕ
  decision_words decision = decimal decision.rc ++ codes " " ++ rule_words decision.rule decision

-- ---- whole lines

abbrev pub numbered : ℕ → List ℕ → List ℕ
numbered number words = decimal number ++ codes " " ++ words ++ codes "\n"

unfoldable pub answer_line : ℕ → Rows → (class : List ℕ) → Decision → List ℕ
answer_line number rows class decision = numbered number (decision_words rows class decision)

-- the number that `*AFTER` waits for never comes
abbrev pub never_line : ℕ → List ℕ
never_line number = codes "NEVER " ++ decimal number ++ codes "\n"
