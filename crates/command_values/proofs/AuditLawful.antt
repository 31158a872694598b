-- What is read of AUDIT is lawful.
use Rattle.std.proofs.Common.{◌≡◌, ℕ, List, [], ◌∷◌, map, Bool, true, false, cond, Option, None, Some, Ok, refl, subst}
use Rattle.std.proofs.lemmas.Bool.{and_from, and_parts}
use Rattle.access_levels.specs.Spelling.{level_of}
use Rattle.access_levels.specs.declared.levels.Level.{Level}
use Rattle.access_levels.specs.declared.levels.Level.TheVariants.{Read}
use Rattle.racf_profiles.specs.declared.profiles.AuditRule.{AuditRule}
use Rattle.command_words.specs.declared.quoting.Quoting.TheVariants.{Ignored}
use Rattle.command_words.specs.Bytes.{upper}
use Rattle.command_words.specs.Tokens.{tokens}
use Rattle.command_words.specs.ValuedWords.{ValuedWord, Alone, Valued, Unclosed, Parenthesis, valued_words}
use Rattle.command_values.specs.declared.faults.Syntax.TheVariants as faults
use Rattle.command_values.specs.declared.audits.AuditWord.{AuditWord}
use Rattle.command_values.specs.declared.audits.AuditWord.TheVariants as audited
use Rattle.command_values.specs.Results.{◌>>=◌, or_fault}
use Rattle.command_values.specs.WordsOfValues.{held, unless_stray}
use Rattle.command_values.specs.Audits.{so_far, with_word, if_audit_level, audit_level, with_level, audit_word, audit_more, audits, audit_rule}
use Rattle.command_fields.specs.AuditRules.{is_audit_level, is_half, is_audit_rule}
use Rattle.command_values.proofs.Outcomes.{bind-ok, or_fault-ok, unless_stray-ok}

-- what is logged, from word to word
level-fits : (p : ℕ) (is : List ValuedWord) (l : Level) → audit_level p is ≡ Ok l → is_audit_level l ≡ true
level-fits p is l h =
    let word = bind-ok (held Ignored p is) (λ h. or_fault (if_audit_level (level_of (map upper h.1))) (faults.BadValue h.0) >>= λ l. unless_stray h.2 l) l h in
    let read = bind-ok (or_fault (if_audit_level (level_of (map upper word.0.1))) (faults.BadValue word.0.0)) (λ l. unless_stray word.0.2 l) l word.2 in
    let same : read.0 ≡ l = unless_stray-ok word.0.2 read.0 l read.2 in
    subst (λ (m : Level). is_audit_level m ≡ true) same (level-some (level_of (map upper word.0.1)) read.0 (or_fault-ok (if_audit_level (level_of (map upper word.0.1))) (faults.BadValue word.0.0) read.0 read.1))
  where
    level-one : (c : Bool) (m l : Level) → is_audit_level m ≡ c → cond c (Some m) None ≡ Some l → is_audit_level l ≡ true
    level-one true m l is h = let same : m ≡ l = cc in subst (λ (n : Level). is_audit_level n ≡ true) same is
    level-one false m l is h = cc

    level-some : (o : Option Level) (l : Level) → if_audit_level o ≡ Some l → is_audit_level l ≡ true
    level-some None l h = cc
    level-some (Some m) l h = level-one (is_audit_level m) m l refl h

word-fits : (rule : AuditRule) (a : AuditWord) (l : Level) → is_audit_rule rule ≡ true → is_audit_level l ≡ true → is_audit_rule (with_word rule a l) ≡ true
word-fits rule audited.All l h k = and_from (is_audit_level l) (is_audit_level l) k k
word-fits rule audited.Success l h k = and_from (is_audit_level l) (is_half rule.failures) k (and_parts (is_half rule.success) (is_half rule.failures) h).1
word-fits rule audited.Failures l h k = and_from (is_half rule.success) (is_audit_level l) (and_parts (is_half rule.success) (is_half rule.failures) h).0 k
word-fits rule audited.Nothing l h k = refl

abbrev are_so_far : Option AuditRule → Type 0
are_so_far o = is_audit_rule (so_far o) ≡ true

with_level-fits : (rule : AuditRule) (a : AuditWord) (p : ℕ) (is : List ValuedWord) (r : AuditRule) → with_level rule a p is ≡ Ok r → is_audit_rule rule ≡ true → is_audit_rule r ≡ true
with_level-fits rule audited.Nothing p is r h fits = cc
with_level-fits rule audited.All p is r h fits =
    let read = bind-ok (audit_level p is) (λ l. Ok (with_word rule audited.All l)) r h in
    let same : with_word rule audited.All read.0 ≡ r = cc in
    subst (λ (x : AuditRule). is_audit_rule x ≡ true) same (word-fits rule audited.All read.0 fits (level-fits p is read.0 read.1))
with_level-fits rule audited.Success p is r h fits =
    let read = bind-ok (audit_level p is) (λ l. Ok (with_word rule audited.Success l)) r h in
    let same : with_word rule audited.Success read.0 ≡ r = cc in
    subst (λ (x : AuditRule). is_audit_rule x ≡ true) same (word-fits rule audited.Success read.0 fits (level-fits p is read.0 read.1))
with_level-fits rule audited.Failures p is r h fits =
    let read = bind-ok (audit_level p is) (λ l. Ok (with_word rule audited.Failures l)) r h in
    let same : with_word rule audited.Failures read.0 ≡ r = cc in
    subst (λ (x : AuditRule). is_audit_rule x ≡ true) same (word-fits rule audited.Failures read.0 fits (level-fits p is read.0 read.1))

more-fits : (rule : Option AuditRule) (i : ValuedWord) (r : AuditRule) → audit_more rule i ≡ Ok r → are_so_far rule → is_audit_rule r ≡ true
more-fits rule (Alone p w) r h fits =
    let word = bind-ok (audit_word rule p w) (λ a. Ok (with_word (so_far rule) a Read)) r h in
    let same : with_word (so_far rule) word.0 Read ≡ r = cc in
    subst (λ (x : AuditRule). is_audit_rule x ≡ true) same (word-fits (so_far rule) word.0 Read fits refl)
more-fits rule (Valued p w t) r h fits =
    let word = bind-ok (audit_word rule p w) (λ a. with_level (so_far rule) a p (valued_words (tokens t))) r h in
    with_level-fits (so_far rule) word.0 p (valued_words (tokens t)) r word.2 fits
more-fits rule (Unclosed p w place) r h fits = cc
more-fits rule (Parenthesis p) r h fits = cc

audits-fit : (rule : Option AuditRule) (is : List ValuedWord) (last : Option AuditRule) → audits rule is ≡ Ok last → are_so_far rule → are_so_far last
audits-fit rule [] last h fits = let same : rule ≡ last = cc in subst (λ (o : Option AuditRule). are_so_far o) same fits
audits-fit rule (i ∷ is) last h fits =
    let read = bind-ok (audit_more rule i) (λ r. audits (Some r) is) last h in
    audits-fit (Some read.0) is last read.2 (more-fits rule i read.0 read.1 fits)

pub audit-fits : (p : ℕ) (is : List ValuedWord) (rule : AuditRule) → audit_rule p is ≡ Ok rule → is_audit_rule rule ≡ true
audit-fits p is rule h =
    let read = bind-ok (audits None is) (λ rule. or_fault rule (faults.BadValue p)) rule h in
    let some : read.0 ≡ Some rule = or_fault-ok read.0 (faults.BadValue p) rule read.2 in
    subst (λ (o : Option AuditRule). are_so_far o) some (audits-fit None is read.0 read.1 refl)
