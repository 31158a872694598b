-- What AUDIT and GLOBALAUDIT hold: ALL, SUCCESS, FAILURES or NONE, each of the first three with a level if it isn't
-- READ.
use Rattle.std.specs.Prelude.{ℕ, List, [], ◌∷◌, ◌++◌, Bool, true, false, ◌&&◌, not, map, find, codes, bytes_eq, is_some, if◌then◌else◌, Option, None, Some, Result, Ok, Err}
use Rattle.access_levels.specs.declared.levels.Level.{Level}
use Rattle.access_levels.specs.declared.levels.Level.TheVariants.{Read}
use Rattle.access_levels.specs.Level.{level_name}
use Rattle.racf_profiles.specs.declared.profiles.AuditRule.{AuditRule}
use Rattle.command_fields.specs.AuditRules.{is_audit_level}
use Rattle.command_words.specs.declared.quoting.Quoting.TheVariants.{Ignored}
use Rattle.command_words.specs.Bytes.{upper}
use Rattle.command_words.specs.Tokens.{tokens}
use Rattle.command_words.specs.ValuedWords.{ValuedWord, Alone, Valued, Unclosed, Parenthesis, valued_words}
use Rattle.command_values.specs.declared.faults.Syntax.{Syntax}
use Rattle.command_values.specs.declared.faults.Syntax.TheVariants as faults
use Rattle.command_values.specs.declared.audits.AuditWord.{AuditWord}
use Rattle.command_values.specs.declared.audits.AuditWord.TheVariants as audited
use Rattle.command_values.specs.Results.{◌>>=◌, or_fault}
use Rattle.command_values.specs.NamedWords.{level_named}
use Rattle.command_values.specs.WordsOfValues.{clean, refused_at, held, unless_stray}

abbrev pub audit_word_name : AuditWord → List ℕ
audit_word_name audited.All = codes "ALL"
audit_word_name audited.Success = codes "SUCCESS"
audit_word_name audited.Failures = codes "FAILURES"
audit_word_name audited.Nothing = codes "NONE"

abbrev pub audit_words : List AuditWord
audit_words = audited.All ∷ audited.Success ∷ audited.Failures ∷ audited.Nothing ∷ []

abbrev pub audit_word_of : List ℕ → Option AuditWord
audit_word_of w = find (λ a. bytes_eq w (audit_word_name a)) audit_words

-- SUCCESS and FAILURES may stand together; ALL and NONE stand alone.
abbrev pub may_follow : Option AuditRule → AuditWord → Bool
may_follow None a = true
may_follow (Some rule) audited.All = false
may_follow (Some rule) audited.Nothing = false
may_follow (Some rule) audited.Success = not (is_some rule.success) && is_some rule.failures
may_follow (Some rule) audited.Failures = is_some rule.success && not (is_some rule.failures)

abbrev pub if_may_follow : Option AuditRule → Option AuditWord → Option AuditWord
if_may_follow rule None = None
if_may_follow rule (Some a) = if may_follow rule a then Some a else None

abbrev pub nothing_logged : AuditRule
nothing_logged = record { success = None; failures = None }

abbrev pub so_far : Option AuditRule → AuditRule
so_far None = nothing_logged
so_far (Some rule) = rule

-- ALL is SUCCESS with FAILURES.
abbrev pub with_word : AuditRule → AuditWord → Level → AuditRule
with_word rule audited.All l = record { success = Some l; failures = Some l }
with_word rule audited.Success l = record { success = Some l; failures = rule.failures }
with_word rule audited.Failures l = record { success = rule.success; failures = Some l }
with_word rule audited.Nothing l = nothing_logged

-- the level behind a word, where it is one of auditing
abbrev pub if_audit_level : Option Level → Option Level
if_audit_level None = None
if_audit_level (Some l) = if is_audit_level l then Some l else None

-- the level in the parentheses behind the word at place p
abbrev pub audit_level : ℕ → List ValuedWord → Result Level Syntax
audit_level p is = held Ignored p is >>= λ h. or_fault (if_audit_level (level_named h.1)) (faults.BadValue h.0) >>= λ l. unless_stray h.2 l

abbrev pub with_level : AuditRule → AuditWord → ℕ → List ValuedWord → Result AuditRule Syntax
with_level rule audited.Nothing p is = Err (faults.BadValue p)
with_level rule a p is = audit_level p is >>= λ l. Ok (with_word rule a l)

-- the word at place p, where it can stand behind what was read
abbrev pub audit_word : Option AuditRule → ℕ → List ℕ → Result AuditWord Syntax
audit_word rule p w = clean Ignored p w >>= λ w. or_fault (if_may_follow rule (audit_word_of (map upper w))) (faults.BadValue p)

-- what is logged with one word more
abbrev pub audit_more : Option AuditRule → ValuedWord → Result AuditRule Syntax
audit_more rule (Alone p w) = audit_word rule p w >>= λ a. Ok (with_word (so_far rule) a Read)
audit_more rule (Valued p w t) = audit_word rule p w >>= λ a. with_level (so_far rule) a p (valued_words (tokens t))
audit_more rule (Unclosed p w place) = Err (faults.BadValue (refused_at Ignored (Unclosed p w place)))
audit_more rule (Parenthesis p) = Err (faults.BadValue p)

abbrev pub audits : Option AuditRule → List ValuedWord → Result (Option AuditRule) Syntax
audits rule [] = Ok rule
audits rule (i ∷ is) = audit_more rule i >>= λ r. audits (Some r) is

-- the rule of an operand at place p
abbrev pub audit_rule : ℕ → List ValuedWord → Result AuditRule Syntax
audit_rule p is = audits None is >>= λ rule. or_fault rule (faults.BadValue p)

-- SUCCESS is written before FAILURES, each with its level.
abbrev pub half_text : List ℕ → Level → List ℕ
half_text word l = word ++ (40 ∷ (level_name l ++ 41 ∷ []))

abbrev pub halves_text : Option Level → Option Level → List ℕ
halves_text None None = codes "NONE"
halves_text (Some l) None = half_text (codes "SUCCESS") l
halves_text None (Some l) = half_text (codes "FAILURES") l
halves_text (Some l) (Some m) = half_text (codes "SUCCESS") l ++ (32 ∷ half_text (codes "FAILURES") m)

abbrev pub audit_text : AuditRule → List ℕ
audit_text rule = halves_text rule.success rule.failures
