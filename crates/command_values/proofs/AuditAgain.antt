-- What AUDIT holds is read again from how it is written.
use Rattle.std.proofs.Common.{◌≡◌, ℕ, suc, ◌+◌, List, [], ◌∷◌, ◌++◌, length, Bool, true, false, ◌&&◌, Option, None, Some, Ok, refl, sym, ap, ◌∙◌, arith, append_assoc, length-append}
use Rattle.std.specs.List.{list_all}
use Rattle.std.proofs.lemmas.Bool.{and_parts}
use Rattle.access_levels.specs.declared.levels.Level.{Level}
use Rattle.access_levels.specs.declared.levels.Level.TheVariants.{NoAccess, Execute, Read, Update, Control, Alter}
use Rattle.access_levels.specs.Level.{level_name}
use Rattle.racf_profiles.specs.declared.profiles.AuditRule.{AuditRule}
use Rattle.command_words.specs.declared.quoting.Quoting.TheVariants.{Outside}
use Rattle.command_words.specs.Tokens.{within, group_end, tokens, tokens_from}
use Rattle.command_words.specs.ValuedWords.{ValuedWord, Valued, valued_words}
use Rattle.command_words.proofs.Spelled.{is_calm, group_end-calm, group_end-nested}
use Rattle.command_values.specs.declared.faults.Syntax.TheVariants as faults
use Rattle.command_values.specs.declared.audits.AuditWord.{AuditWord}
use Rattle.command_values.specs.declared.audits.AuditWord.TheVariants as audited
use Rattle.command_values.specs.Results.{◌>>=◌, or_fault}
use Rattle.command_values.proofs.WordItems.{valued_items}
use Rattle.command_values.specs.Audits.{audit_word_name, so_far, with_word, audit_level, with_level, audit_word, audit_more, audits, audit_rule, half_text, halves_text, audit_text}
use Rattle.command_fields.specs.AuditRules.{is_audit_level, is_half, is_audit_rule}

pub level_calm : (l : Level) → list_all is_calm (level_name l) ≡ true
level_calm NoAccess = refl
level_calm Execute = refl
level_calm Read = refl
level_calm Update = refl
level_calm Control = refl
level_calm Alter = refl

level-again : (p n : ℕ) (l : Level) → is_audit_level l ≡ true → audit_level p (valued_words (tokens (within n (level_name l)))) ≡ Ok l
unfolding tokens
level-again p n NoAccess h = cc
level-again p n Execute h = cc
level-again p n Read h = refl
level-again p n Update h = refl
level-again p n Control h = refl
level-again p n Alter h = refl

abbrev has_level : AuditWord → Bool
has_level audited.All = true
has_level audited.Success = true
has_level audited.Failures = true
has_level audited.Nothing = false

with_level-again : (rule : AuditRule) (a : AuditWord) (p n : ℕ) (l : Level) → has_level a ≡ true → is_audit_level l ≡ true → with_level rule a p (valued_words (tokens (within n (level_name l)))) ≡ Ok (with_word rule a l)
with_level-again rule audited.All p n l h k = ap (λ r. r >>= λ l. Ok (with_word rule audited.All l)) (level-again p n l k)
with_level-again rule audited.Success p n l h k = ap (λ r. r >>= λ l. Ok (with_word rule audited.Success l)) (level-again p n l k)
with_level-again rule audited.Failures p n l h k = ap (λ r. r >>= λ l. Ok (with_word rule audited.Failures l)) (level-again p n l k)
with_level-again rule audited.Nothing p n l h k = cc

more-again : (rule : Option AuditRule) (a : AuditWord) (p n : ℕ) (w : List ℕ) (l : Level) → audit_word rule p w ≡ Ok a → has_level a ≡ true → is_audit_level l ≡ true
    → audit_more rule (Valued p w (within n (level_name l))) ≡ Ok (with_word (so_far rule) a l)
more-again rule a p n w l word h k =
    ap (λ r. r >>= λ a. with_level (so_far rule) a p (valued_words (tokens (within n (level_name l))))) word ∙ with_level-again (so_far rule) a p n l h k

-- the words SUCCESS and FAILURES
success_word : (p : ℕ) → audit_word None p (audit_word_name audited.Success) ≡ Ok audited.Success
success_word p = refl

failures_word : (p : ℕ) → audit_word None p (audit_word_name audited.Failures) ≡ Ok audited.Failures
failures_word p = refl

failures_behind : (p : ℕ) (l : Level) → let rule : AuditRule = record { success = Some l; failures = None } in audit_word (Some rule) p (audit_word_name audited.Failures) ≡ Ok audited.Failures
failures_behind p l = refl

success_items : (tied : Bool) (p : ℕ) (l : Level) (rest : List ℕ)
    → valued_words (tokens_from Outside tied 0 p (half_text (audit_word_name audited.Success) l ++ rest)) ≡ Valued p (audit_word_name audited.Success) (within (p + 7) (level_name l)) ∷ valued_words (tokens_from Outside false 0 (p + 7 + length (level_name l) + 2) rest)
success_items tied p l rest =
    ap (λ bs. valued_words (tokens_from Outside tied 0 p (audit_word_name audited.Success ++ (40 ∷ bs)))) (append_assoc (level_name l) (41 ∷ []) rest)
    ∙ valued_items tied p (audit_word_name audited.Success) (level_name l) rest tt refl (level_calm l)

failures_items : (tied : Bool) (p : ℕ) (l : Level) (rest : List ℕ)
    → valued_words (tokens_from Outside tied 0 p (half_text (audit_word_name audited.Failures) l ++ rest)) ≡ Valued p (audit_word_name audited.Failures) (within (p + 8) (level_name l)) ∷ valued_words (tokens_from Outside false 0 (p + 8 + length (level_name l) + 2) rest)
failures_items tied p l rest =
    ap (λ bs. valued_words (tokens_from Outside tied 0 p (audit_word_name audited.Failures ++ (40 ∷ bs)))) (append_assoc (level_name l) (41 ∷ []) rest)
    ∙ valued_items tied p (audit_word_name audited.Failures) (level_name l) rest tt refl (level_calm l)

alone : (text : List ℕ) → text ++ [] ≡ text → (tied : Bool) (p : ℕ) (is : List ValuedWord) → valued_words (tokens_from Outside tied 0 p (text ++ [])) ≡ is → valued_words (tokens_from Outside tied 0 p text) ≡ is
alone text same tied p is h = ap (λ bs. valued_words (tokens_from Outside tied 0 p bs)) (sym same) ∙ h

nil_right : (x : List ℕ) → x ++ [] ≡ x
nil_right [] = refl
nil_right (b ∷ x) = ap (λ bs. b ∷ bs) (nil_right x)

rule-one : (p : ℕ) (i : ValuedWord) (r : AuditRule) → audit_more None i ≡ Ok r → audit_rule p (i ∷ []) ≡ Ok r
rule-one p i r h = ap (λ x. (x >>= λ r. audits (Some r) []) >>= λ rule. or_fault rule (faults.BadValue p)) h

rule-two : (p : ℕ) (i j : ValuedWord) (r s : AuditRule) → audit_more None i ≡ Ok r → audit_more (Some r) j ≡ Ok s → audit_rule p (i ∷ (j ∷ [])) ≡ Ok s
rule-two p i j r s h k =
    ap (λ x. (x >>= λ r. audits (Some r) (j ∷ [])) >>= λ rule. or_fault rule (faults.BadValue p)) h
    ∙ ap (λ x. (x >>= λ r. audits (Some r) []) >>= λ rule. or_fault rule (faults.BadValue p)) k

-- the item of a word and its level at place p
abbrev half_item : ℕ → List ℕ → ℕ → Level → ValuedWord
half_item p w n l = Valued p w (within (p + n) (level_name l))

abbrev success_at : ℕ → Level → ValuedWord
success_at p l = half_item p (audit_word_name audited.Success) 7 l

abbrev failures_at : ℕ → Level → ValuedWord
failures_at p l = half_item p (audit_word_name audited.Failures) 8 l

success_alone : (q : ℕ) (l : Level) → valued_words (tokens_from Outside false 0 (suc q) (half_text (audit_word_name audited.Success) l)) ≡ success_at (suc q) l ∷ []
success_alone q l = alone (half_text (audit_word_name audited.Success) l) (nil_right (half_text (audit_word_name audited.Success) l)) false (suc q) (success_at (suc q) l ∷ []) (success_items false (suc q) l [])

failures_alone : (q : ℕ) (l : Level) → valued_words (tokens_from Outside false 0 (suc q) (half_text (audit_word_name audited.Failures) l)) ≡ failures_at (suc q) l ∷ []
failures_alone q l = alone (half_text (audit_word_name audited.Failures) l) (nil_right (half_text (audit_word_name audited.Failures) l)) false (suc q) (failures_at (suc q) l ∷ []) (failures_items false (suc q) l [])

success_and : (q : ℕ) (l m : Level) → valued_words (tokens_from Outside false 0 (suc q) (half_text (audit_word_name audited.Success) l ++ (32 ∷ half_text (audit_word_name audited.Failures) m)))
    ≡ success_at (suc q) l ∷ (failures_at (suc (suc q + 7 + length (level_name l) + 2)) m ∷ [])
success_and q l m =
    success_items false (suc q) l (32 ∷ half_text (audit_word_name audited.Failures) m)
    ∙ ap (λ is. success_at (suc q) l ∷ is) (failures_alone (suc q + 7 + length (level_name l) + 2) m)

abbrev success_rule : Level → AuditRule
success_rule l = record { success = Some l; failures = None }

halves-again : (p q : ℕ) (s f : Option Level) → (is_half s && is_half f) ≡ true → audit_rule p (valued_words (tokens (within q (halves_text s f)))) ≡ Ok (record { success = s; failures = f })
unfolding tokens
halves-again p q None None h = refl
halves-again p q (Some l) None h =
    let level : is_audit_level l ≡ true = (and_parts (is_audit_level l) true h).0 in
    ap (audit_rule p) (success_alone q l)
    ∙ rule-one p (success_at (suc q) l) (success_rule l) (more-again None audited.Success (suc q) (suc q + 7) (audit_word_name audited.Success) l (success_word (suc q)) refl level)
halves-again p q None (Some l) h =
    let level : is_audit_level l ≡ true = (and_parts true (is_audit_level l) h).1 in
    ap (audit_rule p) (failures_alone q l)
    ∙ rule-one p (failures_at (suc q) l) (record { success = None; failures = Some l }) (more-again None audited.Failures (suc q) (suc q + 8) (audit_word_name audited.Failures) l (failures_word (suc q)) refl level)
halves-again p q (Some l) (Some m) h =
    let first : is_audit_level l ≡ true = (and_parts (is_audit_level l) (is_audit_level m) h).0 in
    let second : is_audit_level m ≡ true = (and_parts (is_audit_level l) (is_audit_level m) h).1 in
    let n : ℕ = suc q + 7 + length (level_name l) + 2 in
    ap (audit_rule p) (success_and q l m)
    ∙ rule-two p (success_at (suc q) l) (failures_at (suc n) m) (success_rule l) (record { success = Some l; failures = Some m })
    (more-again None audited.Success (suc q) (suc q + 7) (audit_word_name audited.Success) l (success_word (suc q)) refl first)
    (more-again (Some (success_rule l)) audited.Failures (suc n) (suc n + 8) (audit_word_name audited.Failures) m (failures_behind (suc n) l) refl second)

pub audit_again : (p q : ℕ) (rule : AuditRule) → is_audit_rule rule ≡ true → audit_rule p (valued_words (tokens (within q (audit_text rule)))) ≡ Ok rule
audit_again p q rule h = halves-again p q rule.success rule.failures h

-- where its parenthesis closes
half_ends : (outer p : ℕ) (word rest : List ℕ) (l : Level) → list_all is_calm word ≡ true → group_end outer Outside 0 p (half_text word l ++ rest) ≡ group_end outer Outside 0 (p + length (half_text word l)) rest
half_ends outer p word rest l calm =
    let count : p + length word + length (level_name l) + 2 ≡ p + length (half_text word l) = omega (arith, length-append word (40 ∷ (level_name l ++ 41 ∷ [])), length-append (level_name l) (41 ∷ [])) in
    ap (λ bs. group_end outer Outside 0 p bs) (append_assoc word (40 ∷ (level_name l ++ 41 ∷ [])) rest ∙ ap (λ bs. word ++ (40 ∷ bs)) (append_assoc (level_name l) (41 ∷ []) rest))
    ∙ group_end-nested outer p word (level_name l) rest calm (level_calm l)
    ∙ ap (λ n. group_end outer Outside 0 n rest) count

halves_end : (outer p : ℕ) (s f : Option Level) (rest : List ℕ) → group_end outer Outside 0 p (halves_text s f ++ 41 ∷ rest) ≡ Ok (p + length (halves_text s f))
halves_end outer p None None rest = group_end-calm outer p (halves_text None None) rest refl
halves_end outer p (Some l) None rest = half_ends outer p (audit_word_name audited.Success) (41 ∷ rest) l refl
halves_end outer p None (Some l) rest = half_ends outer p (audit_word_name audited.Failures) (41 ∷ rest) l refl
halves_end outer p (Some l) (Some m) rest =
    let first : List ℕ = half_text (audit_word_name audited.Success) l in
    let second : List ℕ = half_text (audit_word_name audited.Failures) m in
    let count : suc (p + length first) + length second ≡ p + length (first ++ (32 ∷ second)) = omega (arith, length-append first (32 ∷ second)) in
    ap (λ bs. group_end outer Outside 0 p bs) (append_assoc first (32 ∷ second) (41 ∷ rest))
    ∙ half_ends outer p (audit_word_name audited.Success) (32 ∷ (second ++ 41 ∷ rest)) l refl
    ∙ half_ends outer (suc (p + length first)) (audit_word_name audited.Failures) (41 ∷ rest) m refl
    ∙ ap Ok count

pub audit_ends : (outer p : ℕ) (rule : AuditRule) (rest : List ℕ) → group_end outer Outside 0 p (audit_text rule ++ 41 ∷ rest) ≡ Ok (p + length (audit_text rule))
audit_ends outer p rule rest = halves_end outer p rule.success rule.failures rest
