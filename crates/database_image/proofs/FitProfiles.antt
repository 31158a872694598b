-- The profiles of lawful rows fit.
use Rattle.std.proofs.Common.{◌≡◌, ℕ, zero, suc, ◌+◌, ◌<◌, ◌≤◌, Bool, true, false, cond, List, [], ◌∷◌, ◌++◌, length, map, Option, Some, None, is_ok, is_some, bytes_eq, refl, sym, ap, subst, ◌∙◌, true≢false, arith, take, drop}
use Rattle.std.specs.Prelude.{not, ◌&&◌, ◌||◌, ◌==◌, codes, nat_lt, nat_le, find, if◌then◌else◌}
use Rattle.std.specs.List.{AllByRecursion, IsDistinct, list_any, list_all, sum_by}
use Rattle.std.specs.Option.{option_map, option_map_or, option_or}
use Rattle.std.proofs.lemmas.Bool.{and_parts, and_from, leb-true, false_from_ne_true}
use Rattle.std.proofs.lemmas.Bool.Decides.{nat_tests}
use Rattle.std.proofs.lemmas.List.{take_at, drop_at}
use Rattle.std.proofs.lemmas.List.Sums.{sum_by-append, sum_by-cons}
use Rattle.std.proofs.lemmas.Map.Keys.{IsDistinct-head, IsDistinct-tail, IsDistinct-cons}
use Rattle.access_levels.specs.Spelling.{id_of}
use Rattle.access_levels.specs.Entries.{is_same_who}
use Rattle.access_levels.specs.Level.{port_class_name}
use Rattle.access_levels.specs.declared.entries.Who.{Who}
use Rattle.access_levels.specs.declared.entries.Who.TheVariants.{Star, Named}
use Rattle.access_levels.specs.declared.entries.Entry.{Entry}
use Rattle.access_levels.specs.declared.entries.CondEntry.{CondEntry}
use Rattle.access_levels.specs.declared.entries.PortClass.{PortClass}
use Rattle.access_levels.specs.declared.entries.PortClass.TheVariants.{Terminal, Console, Jesinput, Appcport}
use Rattle.generic_names.specs.declared.kind.NameKind.{NameKind}
use Rattle.generic_names.specs.Spelled.{Spelled}
use Rattle.generic_names.specs.Faults.{longest}
use Rattle.generic_names.specs.Covers.{is_generic}
use Rattle.generic_names.specs.Laws.{IsPattern}
use Rattle.generic_names.specs.Before.{before as is_before}
use Rattle.racf_profiles.specs.declared.options.Options.{Options}
use Rattle.racf_profiles.specs.declared.profiles.Profile.{Profile}
use Rattle.racf_profiles.specs.declared.profiles.Member.{Member}
use Rattle.racf_profiles.specs.declared.profiles.Member.TheVariants as members
use Rattle.racf_profiles.specs.declared.class_rows.ClassRow.{ClassRow}
use Rattle.racf_profiles.specs.declared.fixed_classes.NameForm.{NameForm}
use Rattle.racf_profiles.specs.declared.fixed_classes.NameForm.TheVariants as names
use Rattle.racf_profiles.specs.declared.fixed_classes.ClassFacts.{ClassFacts}
use Rattle.racf_profiles.specs.declared.rows.Rows.{Rows}
use Rattle.racf_profiles.specs.ClassTable.{facts_of}
use Rattle.racf_profiles.specs.DynamicClasses.{cdt, traits_of, traits_in, facts_of_traits, facts_in, is_short}
use Rattle.racf_profiles.specs.Limits.{most_members}
use Rattle.racf_profiles.specs.Counts.{entries_in}
use Rattle.racf_profiles.specs.Edits.{comes_first, is_in_order}
use Rattle.racf_profiles.specs.Lookup.{is_class}
use Rattle.racf_profiles.specs.LawfulProfiles.{kind_in, is_profile_name, is_same_entry, is_logged_level, is_audit, is_of_kind, is_member_of, member_name, AreProfiles, IsProfile}
use Rattle.racf_profiles.specs.LawfulProfiles as lawful_names
use Rattle.racf_profiles.specs.Lawful.{AreLawful}
use Rattle.racf_profiles.proofs.Named.{same, itself, turned}
use Rattle.database_image.specs.Forms.{ItemsFit}
use Rattle.database_image.specs.Fields.{bit, is_new, filled, who_text, text_in}
use Rattle.database_image.specs.Description.{is_named_by, is_name_in, comes_behind, is_pattern_at, entry, entry_key, port_rank, cond_entry, cond_entry_key, trait_flags, member, is_member_count, profile}
use Rattle.database_image.specs.Spelled.{IsId, IsWho, IsPatternName, IsMemberName, IsSpelledMember, IsSpelledProfile, IsSpelledClass, AreSpelled}
use Rattle.database_image.proofs.Honest.{filled-id, no-star}
use Rattle.database_image.proofs.JudgedRows.{two-below, flags-traits, same-kind, pattern-read, member-read, spelled-size, longest-at-most}
use Rattle.database_image.proofs.FitFields.{spelled-number, at-most, below-limit, spelled-set, spelled-id, spelled-label, spelled-who, spelled-level, spelled-port, spelled-flag, spelled-audit, items-fit, new-in}
use Rattle.database_image.proofs.FitGroups.{all-of, all-both}
use Rattle.database_image.proofs.FitUsers.{set-below, all-pass}

-- ---- entries of one list have keys of their own
apart-text : (a b : Who) → IsWho a → IsWho b → is_same_who a b ≡ false → bytes_eq (who_text a) (who_text b) ≡ false
apart-text Star Star k l h = absurd cc
apart-text Star (Named text) k l h = turned (codes "*") text ∙ no-star text l
apart-text (Named text) Star k l h = no-star text k
apart-text (Named text) (Named other) k l h = h

no-keys : IsDistinct bytes_eq []
unfolding IsDistinct
no-keys = tt

apart-keys : (x : Entry) (es : List Entry) → IsWho x.who → AllByRecursion (λ (e : Entry). IsWho e.who) es → AllByRecursion (λ y. is_same_who x.who y ≡ false) (map (λ (e : Entry). e.who) es) → AllByRecursion (λ y. bytes_eq (entry_key x) y ≡ false) (map entry_key es)
apart-keys x [] k all h = tt
apart-keys x (e ∷ es) k all h = (apart-text x.who e.who k all.0 h.0, apart-keys x es k all.1 h.1)

keys-distinct : (es : List Entry) → AllByRecursion (λ (e : Entry). IsWho e.who) es → IsDistinct is_same_who (map (λ (e : Entry). e.who) es) → IsDistinct bytes_eq (map entry_key es)
keys-distinct [] all h = no-keys
keys-distinct (e ∷ es) all h =
    IsDistinct-cons bytes_eq (entry_key e) (map entry_key es) (apart-keys e es all.0 all.1 (IsDistinct-head is_same_who e.who (map (λ (f : Entry). f.who) es) h)) (keys-distinct es all.1 (IsDistinct-tail is_same_who e.who (map (λ (f : Entry). f.who) es) h))

pub entries-fit : (es : List Entry) → AllByRecursion (λ (e : Entry). IsWho e.who) es → IsDistinct is_same_who (map (λ (e : Entry). e.who) es) → ItemsFit entry [] es
unfolding entry
entries-fit es all h = items-fit entry (λ e. IsWho e.who) es one [] es refl all
  where
    one : (before : List Entry) (e : Entry) (rest : List Entry) → before ++ e ∷ rest ≡ es → IsWho e.who → (entry before).Fits e
    one before e rest is k = ((spelled-who e.who k, new-in entry_key before e rest es is (keys-distinct es all h)), ((spelled-level e.level, refl), refl))

-- ---- conditional entries
name_at : ℕ → List ℕ
name_at zero = []
name_at (suc zero) = codes "TERMINAL"
name_at (suc (suc zero)) = codes "CONSOLE"
name_at (suc (suc (suc zero))) = codes "JESINPUT"
name_at (suc (suc (suc (suc n)))) = codes "APPCPORT"

name-at-rank : (class : PortClass) → name_at (port_rank class) ≡ port_class_name class
unfolding name_at
name-at-rank Terminal = refl
name-at-rank Console = refl
name-at-rank Jesinput = refl
name-at-rank Appcport = refl

heads : (a b : ℕ) (xs ys : List ℕ) → (a ∷ xs) ≡ (b ∷ ys) → (a ≡ b) × (xs ≡ ys)
heads a b xs ys e = (cc, cc)

some-text : (a b : List ℕ) → (let o : Option (List ℕ) = Some a in o ≡ Some b) → a ≡ b
some-text a b e = cc

abbrev IsKept : CondEntry → Type 0
IsKept e = IsId e.condition.name × IsWho e.who

same-by-key : (a b : CondEntry) → IsKept a → IsKept b → cond_entry_key a ≡ cond_entry_key b → is_same_entry a b ≡ true
same-by-key a b k l e =
    let parts = heads (port_rank a.condition.class) (port_rank b.condition.class) (filled a.condition.name ++ who_text a.who) (filled b.condition.name ++ who_text b.who) e in
    let fa = filled-id a.condition.name k.0 in
    let fb = filled-id b.condition.name l.0 in
    let port : filled a.condition.name ≡ filled b.condition.name = sym (take_at (filled a.condition.name) (who_text a.who) 8 fa.whole) ∙ ap (take 8) parts.1 ∙ take_at (filled b.condition.name) (who_text b.who) 8 fb.whole in
    let who : who_text a.who ≡ who_text b.who = sym (drop_at (filled a.condition.name) (who_text a.who) 8 fa.whole) ∙ ap (drop 8) parts.1 ∙ drop_at (filled b.condition.name) (who_text b.who) 8 fb.whole in
    let name : a.condition.name ≡ b.condition.name = some-text _ _ (sym fa.back ∙ ap text_in port ∙ fb.back) in
    let class : port_class_name a.condition.class ≡ port_class_name b.condition.class = sym (name-at-rank a.condition.class) ∙ ap name_at parts.0 ∙ name-at-rank b.condition.class in
    and_from _ _
    (and_from _ _ (ap (bytes_eq (port_class_name a.condition.class)) (sym class) ∙ itself (port_class_name a.condition.class)) (ap (bytes_eq a.condition.name) (sym name) ∙ itself a.condition.name))
    (by (is_same_who a.who b.who) refl who)
  where
    by : (s : Bool) → is_same_who a.who b.who ≡ s → who_text a.who ≡ who_text b.who → s ≡ true
    by true e w = refl
    by false e w = absurd (true≢false (sym (ap (bytes_eq (who_text a.who)) (sym w) ∙ itself (who_text a.who)) ∙ apart-text a.who b.who k.1 l.1 e))

apart-conds : (x : CondEntry) (es : List CondEntry) → IsKept x → AllByRecursion IsKept es → AllByRecursion (λ y. is_same_entry x y ≡ false) es → AllByRecursion (λ y. bytes_eq (cond_entry_key x) y ≡ false) (map cond_entry_key es)
apart-conds x [] k all h = tt
apart-conds x (e ∷ es) k all h =
    (false_from_ne_true (bytes_eq (cond_entry_key x) (cond_entry_key e)) (λ t. true≢false (sym (same-by-key x e k all.0 (same (cond_entry_key x) (cond_entry_key e) t)) ∙ h.0)), apart-conds x es k all.1 h.1)

cond-keys-distinct : (es : List CondEntry) → AllByRecursion IsKept es → IsDistinct is_same_entry es → IsDistinct bytes_eq (map cond_entry_key es)
cond-keys-distinct [] all h = no-keys
cond-keys-distinct (e ∷ es) all h =
    IsDistinct-cons bytes_eq (cond_entry_key e) (map cond_entry_key es) (apart-conds e es all.0 all.1 (IsDistinct-head is_same_entry e es h)) (cond-keys-distinct es all.1 (IsDistinct-tail is_same_entry e es h))

pub conds-fit : (es : List CondEntry) → AllByRecursion IsKept es → IsDistinct is_same_entry es → ItemsFit cond_entry [] es
unfolding cond_entry
conds-fit es all h = items-fit cond_entry IsKept es one [] es refl all
  where
    one : (before : List CondEntry) (e : CondEntry) (rest : List CondEntry) → before ++ e ∷ rest ≡ es → IsKept e → (cond_entry before).Fits e
    one before e rest is k =
        ((spelled-port e.condition.class, refl), ((spelled-id e.condition.name k.0, refl), ((spelled-who e.who k.1, new-in cond_entry_key before e rest es is (cond-keys-distinct es all h)), ((spelled-level e.level, refl), refl))))

-- ---- how long a name is
some-length : (n : ℕ) → (n == 0) ≡ false → nat_le 1 n ≡ true
some-length n h = grind (arith, nat_tests)

most-length : (limit n : ℕ) → nat_lt limit n ≡ false → nat_le n limit ≡ true
most-length limit n h = grind (arith, nat_tests)

longest-small : (kind : NameKind) (n : ℕ) → nat_le n (longest kind) ≡ true → n < 65536
longest-small kind n h = omega (arith, leb-true n (longest kind) h, longest-at-most kind)

pub pattern-length : (name : Spelled) → IsPatternName name → (nat_le 1 (length name.text) && nat_le (length name.text) (longest name.kind)) ≡ true
pattern-length name h = let s = spelled-size (length name.text == 0) (nat_lt (longest name.kind) (length name.text)) _ name name h in and_from _ _ (some-length (length name.text) s.0) (most-length (longest name.kind) (length name.text) s.1)

pub member-length : (name : Spelled) → IsMemberName name → (nat_le 1 (length name.text) && nat_le (length name.text) (longest name.kind)) ≡ true
member-length name h = let s = spelled-size (length name.text == 0) (nat_lt (longest name.kind) (length name.text)) _ name name h in and_from _ _ (some-length (length name.text) s.0) (most-length (longest name.kind) (length name.text) s.1)

-- ---- members
two-few : (a b : Bool) → bit 1 a + bit 2 b < 4
two-few true true = omega arith
two-few true false = omega arith
two-few false true = omega arith
two-few false false = omega arith

module _ (categories : List (List ℕ)) (class profile_name : List ℕ) where
  member-at : (before : List Member) (m : Member) → IsSpelledMember m → is_new (map member_name before) (member_name m) ≡ true → (options : Options) → is_member_of options class profile_name m ≡ true → categories ≡ options.categories → (member categories class profile_name before).Fits m
  unfolding member
  member-at before (members.Access resources level) k new options h e =
      let both = and_parts (bytes_eq class (codes "GLOBAL")) (is_of_kind (kind_in profile_name) resources.kind) h in
      let kind : resources.kind ≡ kind_in profile_name = same-kind (kind_in profile_name) resources.kind both.1 in
      let size : (nat_le 1 (length resources.text) && nat_le (length resources.text) (longest (kind_in profile_name))) ≡ true = subst (λ n. (nat_le 1 (length resources.text) && nat_le (length resources.text) (longest n)) ≡ true) kind (member-length resources k) in
      let small : length resources.text < 65536 = longest-small (kind_in profile_name) (length resources.text) (and_parts (nat_le 1 (length resources.text)) _ size).1 in (
        (spelled-number 1 1 (omega arith), let g = both.0 in rw g refl),
        (((spelled-number 2 (length resources.text) small, size), (record { whole = refl; back = member-read profile_name resources k kind }, new)), ((spelled-level level, refl), refl)),
      )
  member-at before (members.SecurityLevel name number) k new options h e =
      let three = and_parts (bytes_eq class (codes "SECDATA") && bytes_eq profile_name (codes "SECLEVEL") && nat_le 1 number) (nat_le number 254) h in
      let two = and_parts (bytes_eq class (codes "SECDATA") && bytes_eq profile_name (codes "SECLEVEL")) (nat_le 1 number) three.0 in
      ((spelled-number 1 2 (omega arith), let g = two.0 in rw g refl), ((spelled-id name k.0, new), ((spelled-number 1 number k.1, and_from _ _ two.1 three.1), refl)))
  member-at before (members.Traits traits) k new options h e =
      let three = and_parts (bytes_eq class cdt && nat_le 1 traits.longest) (nat_le traits.longest 246) h in
      let two = and_parts (bytes_eq class cdt) (nat_le 1 traits.longest) three.0 in (
        (spelled-number 1 4 (omega arith), let g = two.0 in rw g refl),
        ((spelled-number 1 (trait_flags (members.Traits traits)) (two-below traits.operations traits.ids), and_from _ _ (below-limit (trait_flags (members.Traits traits)) 4 (two-few traits.operations traits.ids)) new), ((spelled-number 1 traits.longest k, and_from _ _ two.1 three.1), flags-traits traits)),
      )
  member-at before (members.Category name) k new options h e =
      let two = and_parts (bytes_eq class (codes "SECDATA") && bytes_eq profile_name (codes "CATEGORY")) (list_any (λ other. bytes_eq other name) options.categories) h in
      ((spelled-number 1 3 (omega arith), let g = two.0 in rw g refl), ((spelled-id name k, and_from _ _ new (ap (list_any (λ other. bytes_eq other name)) e ∙ two.1)), refl))

pub members-fit : (options : Options) (class profile_name : List ℕ) (ms : List Member) → AllByRecursion IsSpelledMember ms → IsDistinct bytes_eq (map member_name ms) → list_all (is_member_of options class profile_name) ms ≡ true → ItemsFit (member options.categories class profile_name) [] ms
members-fit options class profile_name ms all distinct fitting =
    items-fit (member options.categories class profile_name) (λ m. IsSpelledMember m × (is_member_of options class profile_name m ≡ true)) ms
    (λ before m rest e k. member-at options.categories class profile_name before m k.0 (new-in member_name before m rest ms e distinct) options k.1 refl)
    [] ms refl (all-both IsSpelledMember (λ m. is_member_of options class profile_name m ≡ true) ms all (all-pass (is_member_of options class profile_name) ms fitting))

-- how many members a profile has
one-trait : (ms : List Member) → is_some (traits_of ms) ≡ true → length ms ≡ 1
one-trait [] h = absurd cc
one-trait (members.Traits traits ∷ []) h = refl
one-trait (members.Traits traits ∷ m ∷ ms) h = absurd cc
one-trait (members.Access resources level ∷ ms) h = absurd cc
one-trait (members.SecurityLevel name number ∷ ms) h = absurd cc
one-trait (members.Category name ∷ ms) h = absurd cc

member-count : (class : List ℕ) (ms : List Member) → length ms ≤ 1000 → (not (bytes_eq class cdt) || is_some (traits_of ms)) ≡ true → is_member_count class (length ms) ≡ true
member-count class ms few traits = by (bytes_eq class cdt) traits
  where
    by : (b : Bool) → (not b || is_some (traits_of ms)) ≡ true → (if b then length ms == 1 else nat_le (length ms) most_members) ≡ true
    by true h = ap (λ n. n == 1) (one-trait ms h)
    by false h = at-most (length ms) 1000 few

-- ---- the name of a profile
class-id : (classes : List ClassRow) (q : List ℕ) → AllByRecursion IsSpelledClass classes → is_some (find (is_class q) classes) ≡ true → IsId q
class-id [] q all h = absurd cc
class-id (c ∷ classes) q all h = by (bytes_eq c.name q) refl (class-id classes q all.1) h
  where
    by : (b : Bool) → bytes_eq c.name q ≡ b → (is_some (find (is_class q) classes) ≡ true → IsId q) → is_some (cond b (Some c) (find (is_class q) classes)) ≡ true → IsId q
    by true e more k = subst IsId (same c.name q e) all.0.name
    by false e more k = more k

ok-id : (text : List ℕ) → IsId text → is_ok (id_of text) ≡ true
ok-id text h = ap is_ok h

behind-order : (before : List Profile) (p : Profile) (rest : List Profile) → is_in_order (before ++ p ∷ rest) ≡ true → comes_behind before p.name ≡ true
behind-order [] p rest h = refl
behind-order (a ∷ []) p rest h = (and_parts (is_before a.name p.name) (is_in_order (p ∷ rest)) h).0
behind-order (a ∷ b ∷ before) p rest h = behind-order (b ∷ before) p rest (and_parts (comes_first a.name (b ∷ (before ++ p ∷ rest))) (is_in_order (b ∷ (before ++ p ∷ rest))) h).1

module _ (rows : Rows) (lawful : AreLawful rows) (spelled : AreSpelled rows) where
  named-so : (form : NameForm) (text : List ℕ) → lawful_names.is_named_by form rows text ≡ true → is_named_by form text ≡ true
  named-so names.DataSet text h = h
  named-so names.General text h = h
  named-so names.LevelOrCategory text h = h
  named-so names.Identifier text h = h
  named-so names.Class text h = ok-id text (class-id rows.classes text spelled.classes h)

  placed : (class : List ℕ) (before : List Profile) (name : Spelled) → option_map_or (is_profile_name rows name) (facts_in class rows) false ≡ true → comes_behind before name ≡ true → is_pattern_at class before name ≡ true
  unfolding is_pattern_at
  placed class before name h k = and_from _ _ (by (facts_of class) h) k
    where
      by : (o : Option ClassFacts) → option_map_or (is_profile_name rows name) (option_or o (option_map facts_of_traits (traits_in class rows))) false ≡ true → option_map_or (λ facts. is_name_in facts name) o true ≡ true
      by None h = refl
      by (Some facts) h =
          let parts = and_parts (lawful_names.is_named_by facts.names rows name.text) (is_short facts name.text && (not (is_generic name) || facts.generic)) h in
          and_from _ _ (named-so facts.names name.text parts.0) (and_parts (is_short facts name.text) (not (is_generic name) || facts.generic) parts.1).1

  -- ---- a profile of a class, where so many entries are in the classes before
  module _ (class : List ℕ) (entries : ℕ) (all : List Profile) (are : AreProfiles (kind_in class) all) (few : entries + sum_by entries_in all ≤ 1000000) where
    abbrev IsOne : Profile → Type 0
    IsOne p = IsSpelledProfile p × (IsProfile rows class p × (p.name.kind ≡ kind_in class))

    profile-fits : (before : List Profile) (p : Profile) (rest : List Profile) → before ++ p ∷ rest ≡ all → IsOne p → (profile rows.options.categories class entries before).Fits p
    unfolding profile
    profile-fits before p rest e k =
        let s = k.0 in
        let is = k.1.0 in
        let kind : p.name.kind ≡ kind_in class = k.1.1 in
        let size : (nat_le 1 (length p.name.text) && nat_le (length p.name.text) (longest (kind_in class))) ≡ true = subst (λ n. (nat_le 1 (length p.name.text) && nat_le (length p.name.text) (longest n)) ≡ true) kind (pattern-length p.name s.name) in
        let small : length p.name.text < 65536 = longest-small (kind_in class) (length p.name.text) (and_parts (nat_le 1 (length p.name.text)) _ size).1 in
        let behind : comes_behind before p.name ≡ true = behind-order before p rest (ap is_in_order e ∙ are.ordered) in
        let audits = and_parts (is_audit p.audit) (is_audit p.global_audit) is.audit in
        let audit = and_parts (is_logged_level p.audit.success) (is_logged_level p.audit.failures) audits.0 in
        let global = and_parts (is_logged_level p.global_audit.success) (is_logged_level p.global_audit.failures) audits.1 in
        let set = set-below p.categories (length rows.options.categories) lawful.categories.few is.categories in
        let sum : sum_by entries_in all ≡ sum_by entries_in before + (entries_in p + sum_by entries_in rest) = ap (sum_by entries_in) (sym e) ∙ sum_by-append entries_in before (p ∷ rest) ∙ ap (λ n. sum_by entries_in before + n) (sum_by-cons entries_in p rest) in
        let one : entries + sum_by entries_in before + length p.standard ≤ 1000000 = omega (arith, sum, few) in
        let two : entries + sum_by entries_in before + length p.standard + length p.conditional ≤ 1000000 = omega (arith, sum, few) in (
          ((spelled-number 2 (length p.name.text) small, size), (record { whole = refl; back = pattern-read class p.name s.name kind }, placed class before p.name is.name behind)),
          (
            (spelled-id p.owner s.owner, refl),
            (
              (spelled-level p.uacc, refl),
              (
                (spelled-flag p.warning, refl),
                (
                  (spelled-audit p.audit.success audit.0, refl),
                  (
                    (spelled-audit p.audit.failures audit.1, refl),
                    (
                      (spelled-audit p.global_audit.success global.0, refl),
                      (
                        (spelled-audit p.global_audit.failures global.1, refl),
                        (
                          (spelled-number 1 p.level s.level, refl),
                          (
                            (spelled-set p.categories set.0, set.1),
                            (
                              (spelled-label p.label s.label, refl),
                              (
                                (
                                  (spelled-number 2 (length p.standard) (omega (arith, is.entries.few)), and_from _ _ (at-most (length p.standard) 1000 is.entries.few) (at-most (entries + sum_by entries_in before + length p.standard) 1000000 one)),
                                  entries-fit p.standard s.standard is.entries.distinct,
                                ),
                                (
                                  (
                                    (spelled-number 2 (length p.conditional) (omega (arith, is.entries.few_when)), and_from _ _ (at-most (length p.conditional) 1000 is.entries.few_when) (at-most (entries + sum_by entries_in before + length p.standard + length p.conditional) 1000000 two)),
                                    conds-fit p.conditional s.conditional is.entries.distinct_when,
                                  ),
                                  (
                                    (
                                      (spelled-number 2 (length p.members) (omega (arith, is.members.few)), member-count class p.members is.members.few is.members.traits),
                                      members-fit rows.options class p.name.text p.members s.members is.members.distinct is.members.fitting,
                                    ),
                                    refl,
                                  ),
                                ),
                              ),
                            ),
                          ),
                        ),
                      ),
                    ),
                  ),
                ),
              ),
            ),
          ),
        )

    pub profiles-fit : AllByRecursion IsSpelledProfile all → AllByRecursion (IsProfile rows class) all → ItemsFit (profile rows.options.categories class entries) [] all
    profiles-fit s is =
        items-fit (profile rows.options.categories class entries) IsOne all profile-fits [] all refl
        (all-both IsSpelledProfile (λ p. IsProfile rows class p × (p.name.kind ≡ kind_in class)) all s (all-both (IsProfile rows class) (λ p. p.name.kind ≡ kind_in class) all is (all-of (λ (p : Profile). IsPattern p.name × (p.name.kind ≡ kind_in class)) (λ p. p.name.kind ≡ kind_in class) (λ p h. h.1) all are.named)))
