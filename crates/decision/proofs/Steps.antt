-- The table's cases, asked one after the other as they are by the code.
use Rattle.std.proofs.Common.{◌≡◌, ℕ, Bool, true, false, not, ◌&&◌, cond, List, [], ◌∷◌, Option, Some, None, is_some, refl, sym, ◌∙◌, ap}
use Rattle.std.specs.Prelude.{unwrap_or, bytes_eq}
use Rattle.std.specs.Option.{option_map_or}
use Rattle.access_levels.specs.declared.levels.Level.{Level}
use Rattle.access_levels.specs.declared.levels.Level.TheVariants.{NoAccess}
use Rattle.access_levels.specs.declared.entries.Entry.{Entry}
use Rattle.access_levels.specs.declared.entries.CondEntry.{CondEntry}
use Rattle.access_levels.specs.Level.{suffices}
use Rattle.access_lists.specs.declared.best.GroupEntry.{GroupEntry}
use Rattle.access_lists.specs.declared.answers.Found.{Found}
use Rattle.access_lists.specs.Answers as lists
use Rattle.generic_names.specs.Spelled.{Spelled}
use Rattle.racf_profiles.specs.declared.profiles.Profile.{Profile}
use Rattle.racf_profiles.specs.declared.rows.Rows.{Rows}
use Rattle.racf_profiles.specs.declared.options.Options.{Options}
use Rattle.raclist_image.specs.declared.facts.Facts.{Facts}
use Rattle.raclist_image.specs.Facts.{AreFacts}
use Rattle.acee.specs.declared.acee.Acee.{Acee}
use Rattle.decision.specs.declared.answer.Answer.{Answer}
use Rattle.decision.specs.declared.outcome.Rule.TheVariants as rule
use Rattle.generic_names.specs.Spelled.{first_qualifier}
use Rattle.racf_profiles.specs.DynamicClasses.{allows_operations}
use Rattle.decision.specs.Table.{case, with, first_answer, else_case, higher, considered, is_dataset, operating_over, standing_of, answer_with_profile, user_entry, group_entry, star_entry}
use Rattle.decision.specs.Steps.{listed, is_open, uacc_case, entry_case, standing_with, operations_cases, conditional_case}

-- ---- a list of cases in parts
in_parts : (c7 c8 c9 c10 c11 c12 c13 c14 c15 : Option Answer) (last : Answer) → unwrap_or (first_answer (None ∷ c7 ∷ c8 ∷ c9 ∷ c10 ∷ c11 ∷ c12 ∷ c13 ∷ c14 ∷ c15 ∷ [])) last
    ≡ unwrap_or c7 (unwrap_or (first_answer (c8 ∷ c9 ∷ c10 ∷ c11 ∷ [])) (unwrap_or c12 (unwrap_or (first_answer (c13 ∷ c14 ∷ [])) (unwrap_or c15 last))))
in_parts (Some a) c8 c9 c10 c11 c12 c13 c14 c15 last = refl
in_parts None (Some a) c9 c10 c11 c12 c13 c14 c15 last = refl
in_parts None None (Some a) c10 c11 c12 c13 c14 c15 last = refl
in_parts None None None (Some a) c11 c12 c13 c14 c15 last = refl
in_parts None None None None (Some a) c12 c13 c14 c15 last = refl
in_parts None None None None None (Some a) c13 c14 c15 last = refl
in_parts None None None None None None (Some a) c14 c15 last = refl
in_parts None None None None None None None (Some a) c15 last = refl
in_parts None None None None None None None None (Some a) last = refl
in_parts None None None None None None None None None last = refl

alone : (c : Option Answer) → first_answer (c ∷ None ∷ None ∷ None ∷ []) ≡ c
alone None = refl
alone (Some a) = refl

alone-second : (c : Option Answer) → first_answer (None ∷ c ∷ None ∷ None ∷ []) ≡ c
alone-second None = refl
alone-second (Some a) = refl

alone-last : (c : Option Answer) → first_answer (None ∷ None ∷ None ∷ c ∷ []) ≡ c
alone-last None = refl
alone-last (Some a) = refl

-- ---- the cases of the standard list, by what it gives
module _ (restricted : Bool) (uacc asked : Level) where
  abbrev neither : Option Entry → Option GroupEntry → Bool
  neither own group = not (is_some own) && not (is_some group)

  abbrev entry_cases : Option Entry → Option GroupEntry → Option Entry → List (Option Answer)
  entry_cases own group star =
      with own (λ entry. case (suffices entry.level asked) rule.UserEntry 0 entry.level)
      ∷ with group (λ entry. case (not (is_some own) && suffices entry.level asked) (rule.GroupEntry entry.group) 0 entry.level)
      ∷ with star (λ entry. case (neither own group && not restricted && suffices entry.level asked) rule.Star 0 entry.level)
      ∷ case (neither own group && not restricted && suffices uacc asked) rule.Uacc 0 uacc
      ∷ []

  by_found : (own : Option Entry) (group : Option GroupEntry) (star : Option Entry) → (restricted ≡ true → star ≡ None) → first_answer (entry_cases own group star) ≡ entry_case (lists.found_of own group star) restricted uacc asked
  by_found (Some e) None None bar = alone (case (suffices e.level asked) rule.UserEntry 0 e.level)
  by_found (Some e) None (Some s) bar = alone (case (suffices e.level asked) rule.UserEntry 0 e.level)
  by_found (Some e) (Some g) None bar = alone (case (suffices e.level asked) rule.UserEntry 0 e.level)
  by_found (Some e) (Some g) (Some s) bar = alone (case (suffices e.level asked) rule.UserEntry 0 e.level)
  by_found None (Some g) None bar = alone-second (case (suffices g.level asked) (rule.GroupEntry g.group) 0 g.level)
  by_found None (Some g) (Some s) bar = alone-second (case (suffices g.level asked) (rule.GroupEntry g.group) 0 g.level)
  by_found None None (Some s) bar = by_star restricted refl
    where
      by_star : (b : Bool) → restricted ≡ b → first_answer (entry_cases None None (Some s)) ≡ entry_case (lists.found_of None None (Some s)) restricted uacc asked
      by_star true h = let none : Some s ≡ None = bar h in cc
      by_star false h =
          ap (λ r. first_answer (case (not r && suffices s.level asked) rule.Star 0 s.level ∷ case (not restricted && suffices uacc asked) rule.Uacc 0 uacc ∷ [])) h
  by_found None None None bar = alone-last (uacc_case restricted uacc asked)

  standing-found : (own : Option Entry) (group : Option GroupEntry) (star : Option Entry)
      → standing_of own group (cond restricted NoAccess (higher uacc (option_map_or (λ (entry : Entry). entry.level) star NoAccess))) ≡ standing_with (lists.found_of own group star) restricted uacc
  standing-found (Some e) group star = refl
  standing-found None (Some g) star = refl
  standing-found None None (Some s) = refl
  standing-found None None None = refl

  neither-found : (own : Option Entry) (group : Option GroupEntry) (star : Option Entry) → neither own group ≡ is_open (lists.found_of own group star)
  neither-found (Some e) group star = refl
  neither-found None (Some g) star = refl
  neither-found None None (Some s) = refl
  neither-found None None None = refl

no_star : (acee : Acee) (list : List Entry) → acee.attributes.restricted ≡ true → lists.star_entry acee.attributes.restricted list ≡ None
no_star acee list h = ap (λ r. lists.star_entry r list) h

-- ---- one case after the other
abbrev pub stepped : Bool → Option Answer → Option Answer → Option Answer → Bool → Level → Answer
stepped own entry conditional operations warning standing =
    unwrap_or (case own rule.OwnData 0 NoAccess) (unwrap_or entry (unwrap_or conditional (unwrap_or operations (unwrap_or (case warning rule.Warning 0 standing) (else_case rule.Insufficient 8 standing)))))

pub exit_own : (own : Bool) (entry conditional operations : Option Answer) (warning : Bool) (standing : Level) → own ≡ true → stepped own entry conditional operations warning standing ≡ else_case rule.OwnData 0 NoAccess
exit_own true entry conditional operations warning standing h = refl
exit_own false entry conditional operations warning standing h = cc

pub exit_entry : (own : Bool) (entry conditional operations : Option Answer) (warning : Bool) (standing : Level) (answer : Answer) → own ≡ false → entry ≡ Some answer → stepped own entry conditional operations warning standing ≡ answer
exit_entry own entry conditional operations warning standing answer h e = ap (λ own. stepped own entry conditional operations warning standing) h ∙ ap (λ entry. stepped false entry conditional operations warning standing) e

pub exit_conditional : (own : Bool) (entry conditional operations : Option Answer) (warning : Bool) (standing : Level) (answer : Answer) → own ≡ false → entry ≡ None → conditional ≡ Some answer → stepped own entry conditional operations warning standing ≡ answer
exit_conditional own entry conditional operations warning standing answer h e k =
    ap (λ own. stepped own entry conditional operations warning standing) h ∙ ap (λ entry. stepped false entry conditional operations warning standing) e ∙ ap (λ conditional. stepped false None conditional operations warning standing) k

pub exit_operations : (own : Bool) (entry conditional operations : Option Answer) (warning : Bool) (standing : Level) (answer : Answer) → own ≡ false → entry ≡ None → conditional ≡ None → operations ≡ Some answer → stepped own entry conditional operations warning standing ≡ answer
exit_operations own entry conditional operations warning standing answer h e k o =
    ap (λ own. stepped own entry conditional operations warning standing) h
    ∙ ap (λ entry. stepped false entry conditional operations warning standing) e
    ∙ ap (λ conditional. stepped false None conditional operations warning standing) k
    ∙ ap (λ operations. stepped false None None operations warning standing) o

pub exit_last : (own : Bool) (entry conditional operations : Option Answer) (warning : Bool) (standing : Level) → own ≡ false → entry ≡ None → conditional ≡ None → operations ≡ None
    → stepped own entry conditional operations warning standing ≡ unwrap_or (case warning rule.Warning 0 standing) (else_case rule.Insufficient 8 standing)
exit_last own entry conditional operations warning standing h e k o =
    ap (λ own. stepped own entry conditional operations warning standing) h
    ∙ ap (λ entry. stepped false entry conditional operations warning standing) e
    ∙ ap (λ conditional. stepped false None conditional operations warning standing) k
    ∙ ap (λ operations. stepped false None None operations warning standing) o

-- ---- the table for a profile, by what the code asks
module _ (rows : Rows) (acee : Acee) (class : List ℕ) (name : Spelled) (asked : Level) where
  abbrev pub own_case : Bool
  own_case = is_dataset class && bytes_eq (first_qualifier name.text) acee.user

  abbrev pub operations_answer : Found → Level → List ℕ → Option Answer
  operations_answer found uacc owner = first_answer (operations_cases (allows_operations class rows && is_open found) acee.attributes.operations (operating_over rows acee owner) (standing_with found acee.attributes.restricted uacc))

  abbrev pub told : Options → Found → Level → List CondEntry → List ℕ → Bool → Answer
  told options found uacc conditional owner warning =
      stepped own_case (entry_case found acee.attributes.restricted uacc asked) (conditional_case options acee conditional asked) (operations_answer found uacc owner) warning (standing_with found acee.attributes.restricted uacc)

  by_parts : (p : Profile) → answer_with_profile None rows acee class name asked p ≡ told rows.options (listed rows.options acee p) p.uacc p.conditional p.owner p.warning
  by_parts p =
      let r : Bool = acee.attributes.restricted in
      let own : Option Entry = user_entry acee p in
      let group : Option GroupEntry = group_entry rows.options acee p in
      let star : Option Entry = star_entry acee p in
      let found : Found = lists.found_of own group star in
      let st : Level = standing_of own group (cond r NoAccess (higher p.uacc (option_map_or (λ (entry : Entry). entry.level) star NoAccess))) in
      let free : Bool = neither r p.uacc asked own group in
      in_parts (case own_case rule.OwnData 0 NoAccess)
      (with own (λ entry. case (suffices entry.level asked) rule.UserEntry 0 entry.level))
      (with group (λ entry. case (not (is_some own) && suffices entry.level asked) (rule.GroupEntry entry.group) 0 entry.level))
      (with star (λ entry. case (free && not r && suffices entry.level asked) rule.Star 0 entry.level))
      (case (free && not r && suffices p.uacc asked) rule.Uacc 0 p.uacc)
      (conditional_case rows.options acee p.conditional asked)
      (case (allows_operations class rows && free && acee.attributes.operations) rule.Operations 0 st)
      (with (operating_over rows acee p.owner) (λ group. case (allows_operations class rows && free) (rule.GroupOperations group) 0 st))
      (case p.warning rule.Warning 0 st)
      (else_case rule.Insufficient 8 st)
      ∙ ap (λ e. stepped own_case e (conditional_case rows.options acee p.conditional asked) (first_answer (operations_cases (allows_operations class rows && free) acee.attributes.operations (operating_over rows acee p.owner) st)) p.warning st)
      (by_found r p.uacc asked own group star (no_star acee p.standard))
      ∙ ap (λ s. stepped own_case (entry_case found r p.uacc asked) (conditional_case rows.options acee p.conditional asked) (first_answer (operations_cases (allows_operations class rows && free) acee.attributes.operations (operating_over rows acee p.owner) s)) p.warning s)
      (standing-found r p.uacc asked own group star)
      ∙ ap (λ f. stepped own_case (entry_case found r p.uacc asked) (conditional_case rows.options acee p.conditional asked) (first_answer (operations_cases (allows_operations class rows && f) acee.attributes.operations (operating_over rows acee p.owner) (standing_with found r p.uacc))) p.warning (standing_with found r p.uacc))
      (neither-found r p.uacc asked own group star)

  pub by_facts : (p : Profile) (facts : Facts) → AreFacts p facts → (options : Options) → options ≡ rows.options → (found : Found) → found ≡ lists.answered acee.user (considered options acee) acee.attributes.restricted facts.standard.now
      → told options found facts.uacc facts.conditional.now facts.owner facts.warning ≡ answer_with_profile None rows acee class name asked p
  by_facts p facts h options o found is =
      let same : found ≡ listed rows.options acee p = is ∙ ap (λ list. lists.answered acee.user (considered options acee) acee.attributes.restricted list) h.standard ∙ ap (λ os. listed os acee p) o in
      ap (λ found. told options found facts.uacc facts.conditional.now facts.owner facts.warning) same
      ∙ ap (λ os. told os (listed rows.options acee p) facts.uacc facts.conditional.now facts.owner facts.warning) o
      ∙ ap (λ u. told rows.options (listed rows.options acee p) u facts.conditional.now facts.owner facts.warning) h.uacc
      ∙ ap (λ k. told rows.options (listed rows.options acee p) p.uacc k facts.owner facts.warning) h.conditional
      ∙ ap (λ w. told rows.options (listed rows.options acee p) p.uacc p.conditional w facts.warning) h.owner
      ∙ ap (λ w. told rows.options (listed rows.options acee p) p.uacc p.conditional p.owner w) h.warning
      ∙ sym (by_parts p)

  pub own_first : (p : Profile) → own_case ≡ true → else_case rule.OwnData 0 NoAccess ≡ answer_with_profile None rows acee class name asked p
  own_first p own =
      let found : Found = listed rows.options acee p in
      sym (by_parts p ∙ exit_own own_case (entry_case found acee.attributes.restricted p.uacc asked) (conditional_case rows.options acee p.conditional asked) (operations_answer found p.uacc p.owner) p.warning (standing_with found acee.attributes.restricted p.uacc) own)
