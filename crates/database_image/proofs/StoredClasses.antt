-- The classes of rows that an image may hold are lawful.
use Rattle.std.proofs.Common.{◌≡◌, ℕ, ◌+◌, ◌<◌, ◌≤◌, Bool, true, false, List, [], ◌∷◌, ◌++◌, length, map, Option, Some, None, Ok, is_some, refl, sym, ap, subst, ◌∙◌, true≢false, arith}
use Rattle.std.specs.Prelude.{not, ◌&&◌, ◌||◌, ◌==◌, nat_le, nat_lt, codes, bytes_eq, find, IsTrue, if◌then◌else◌}
use Rattle.std.specs.List.{AllByRecursion, IsDistinct, list_any, list_all, sum_by}
use Rattle.std.specs.Option.{option_map, option_map_or, option_or, option_and_then}
use Rattle.std.specs.Result.{result_ok}
use Rattle.std.proofs.lemmas.Bool.{and_parts, and_from, leb-true, eqb-true, false_from_ne_true}
use Rattle.std.proofs.lemmas.Map.Keys.{IsDistinct-head, IsDistinct-tail, IsDistinct-cons}
use Rattle.access_levels.specs.Category.{is_member}
use Rattle.access_levels.specs.Entries.{is_same_who, is_same_port}
use Rattle.access_levels.specs.declared.levels.Level.{Level}
use Rattle.access_levels.specs.declared.entries.Who.{Who}
use Rattle.access_levels.specs.declared.entries.Who.TheVariants.{Star, Named}
use Rattle.access_levels.specs.declared.entries.Entry.{Entry}
use Rattle.access_levels.specs.declared.entries.CondEntry.{CondEntry}
use Rattle.access_levels.specs.declared.entries.PortClass.{PortClass}
use Rattle.access_levels.specs.declared.entries.PortClass.TheVariants.{Terminal, Console, Jesinput, Appcport}
use Rattle.access_levels.specs.Level.{port_class_name}
use Rattle.generic_names.specs.declared.kind.NameKind.{NameKind}
use Rattle.generic_names.specs.declared.kind.NameKind.TheVariants.{DataSet, General}
use Rattle.generic_names.specs.declared.fault.NameFault.{NameFault}
use Rattle.generic_names.specs.Spelled.{Spelled}
use Rattle.generic_names.specs.Faults.{unless, pattern_of}
use Rattle.generic_names.specs.Covers.{is_generic}
use Rattle.generic_names.specs.Before.{before as is_before}
use Rattle.racf_profiles.specs.declared.options.Options.{Options}
use Rattle.racf_profiles.specs.declared.profiles.ClassTraits.{ClassTraits}
use Rattle.racf_profiles.specs.declared.profiles.Profile.{Profile}
use Rattle.racf_profiles.specs.declared.profiles.Member.{Member}
use Rattle.racf_profiles.specs.declared.profiles.Member.TheVariants as members
use Rattle.racf_profiles.specs.declared.class_rows.ClassRow.{ClassRow}
use Rattle.racf_profiles.specs.declared.fixed_classes.FixedClass.{FixedClass}
use Rattle.racf_profiles.specs.declared.fixed_classes.FixedClass.TheVariants as fixed
use Rattle.racf_profiles.specs.declared.fixed_classes.NameForm.{NameForm}
use Rattle.racf_profiles.specs.declared.fixed_classes.NameForm.TheVariants as names
use Rattle.racf_profiles.specs.declared.fixed_classes.ClassFacts.{ClassFacts}
use Rattle.racf_profiles.specs.declared.rows.Rows.{Rows}
use Rattle.racf_profiles.specs.ClassTable.{class_name, fixed_class, fixed_classes, facts_of_class, facts_of}
use Rattle.racf_profiles.specs.DynamicClasses.{cdt, general, traits_of, traits_in, facts_of_traits, facts_in, is_fixed, is_short}
use Rattle.racf_profiles.specs.Edits.{is_in_order}
use Rattle.racf_profiles.specs.Limits.{most_members, most_class_profiles, most_profiles, most_list_entries, most_entries_in_all}
use Rattle.racf_profiles.specs.Lookup.{is_class, is_profile, class_of, profile_of}
use Rattle.racf_profiles.specs.Counts.{profile_count, entry_count, entries_in}
use Rattle.racf_profiles.specs.LawfulProfiles.{kind_in, names_of, is_profile_name, is_same_entry, is_logged_level, is_audit, is_of_kind, is_member_of, member_name, most_classes, profiles_of, AreProfiles, AreClasses, AreDynamic, AreEntries, AreMembers, IsProfile, IsClass}
use Rattle.racf_profiles.specs.LawfulProfiles as lawful
use Rattle.racf_profiles.proofs.Named.{same, itself, turned}
use Rattle.racf_profiles.proofs.States.{find-passes}
use Rattle.byteorder.specs.Endian.{big_number}
use Rattle.database_image.specs.Forms.{Form, IsSpelled, ItemsFit}
use Rattle.database_image.specs.Fields.{is_new, is_set, filled, who_text, rank_spelling}
use Rattle.database_image.specs.Description.{is_named_by, is_name_in, comes_behind, is_pattern_at, pattern_in, member_in, audit_rank, audit_levels, entry, entry_key, port_rank, cond_entry, cond_entry_key, member_kind, is_kind_in, trait_flags, member, is_member_count, member_of_kind, profile, class_flags, is_class_at, class, image_by}
use Rattle.database_image.specs.Facts.{Fact, told, told_of_each, first_broken, profile_width, profile_facts, definition_facts, defines_class, is_name_by, name_facts, dynamic_facts, class_facts}
use Rattle.database_image.specs.Image.{IsStored}
use Rattle.database_image.proofs.Fitting.{distinct-items}
use Rattle.database_image.proofs.StoredGroups.{one-true, each-holds, all-fit, holding}
use Rattle.database_image.proofs.StoredUsers.{sums-within, few-set}
use Rattle.database_image.proofs.StoredNames.{are-names}

-- ---- one of some values
found-in : {A : Type 0} (P : A → Type 0) (test : A → Bool) (values : List A) (x : A) → AllByRecursion P values → find test values ≡ Some x → P x
found-in P test [] x all h = absurd cc
found-in P test (v ∷ values) x all h = by (test v) (λ e. found-in P test values x all.1 e) h
  where
    by : (b : Bool) → (find test values ≡ Some x → P x) → (if b then Some v else find test values) ≡ Some x → P x
    by true more e = let one : v ≡ x = (let a = e in cc) in subst P one all.0
    by false more e = more e

logged : (o : Option Level) → IsSpelled (rank_spelling audit_rank audit_levels) o → is_logged_level o ≡ true
logged o spelled = found-in (λ x. is_logged_level x ≡ true) (λ x. audit_rank x == big_number 1 (audit_rank o ∷ [])) audit_levels o (refl, (refl, (refl, (refl, (refl, (refl, tt)))))) spelled.back

-- ---- names that a text spells
spelled-name : (fault : Option NameFault) (name x : Spelled) → result_ok (unless fault name) ≡ Some x → (unless fault name ≡ Ok x) × (x ≡ name)
spelled-name None name x e = (let a = e in cc, let a = e in cc)
spelled-name (Some fault) name x e = absurd cc

pattern-back : (class : List ℕ) (name : Spelled) → pattern_in class name.text ≡ Some name → (pattern_of name.kind name.text ≡ Ok name) × (name.kind ≡ kind_in class)
unfolding pattern_in
pattern-back class name h =
    let s = spelled-name _ (record { kind = kind_in class; text = name.text }) name h in
    let kind : name.kind ≡ kind_in class = ap (λ (n : Spelled). n.kind) s.1 in
    (subst (λ k. pattern_of k name.text ≡ Ok name) (sym kind) s.0, kind)

member-kind-back : (profile : List ℕ) (name : Spelled) → member_in profile name.text ≡ Some name → name.kind ≡ kind_in profile
unfolding member_in
member-kind-back profile name h = ap (λ (n : Spelled). n.kind) (spelled-name _ (record { kind = kind_in profile; text = name.text }) name h).1

of-one-kind : (kind other : NameKind) → other ≡ kind → is_of_kind kind other ≡ true
of-one-kind DataSet DataSet h = refl
of-one-kind General General h = refl
of-one-kind DataSet General h = absurd cc
of-one-kind General DataSet h = absurd cc

-- ---- the form of a class's names
global-form : (class : FixedClass) → (facts_of_class class).names ≡ names.Class → class ≡ fixed.Global
global-form fixed.Dataset h = absurd cc
global-form fixed.Facility h = absurd cc
global-form fixed.Terminal h = absurd cc
global-form fixed.Console h = absurd cc
global-form fixed.Jesinput h = absurd cc
global-form fixed.Appcport h = absurd cc
global-form fixed.Appl h = absurd cc
global-form fixed.Opercmds h = absurd cc
global-form fixed.Surrogat h = absurd cc
global-form fixed.Tapevol h = absurd cc
global-form fixed.Dasdvol h = absurd cc
global-form fixed.Secdata h = absurd cc
global-form fixed.Seclabel h = absurd cc
global-form fixed.Global h = refl
global-form fixed.Cdt h = absurd cc

is-global : (class : List ℕ) (facts : ClassFacts) → facts_of class ≡ Some facts → facts.names ≡ names.Class → bytes_eq class (codes "GLOBAL") ≡ true
is-global class facts h form = by (fixed_class class) refl h
  where
    by : (o : Option FixedClass) → fixed_class class ≡ o → option_map facts_of_class o ≡ Some facts → bytes_eq class (codes "GLOBAL") ≡ true
    by None e k = absurd cc
    by (Some c) e k =
        let one : facts_of_class c ≡ facts = (let a = k in cc) in
        let global : c ≡ fixed.Global = global-form c (ap (λ (f : ClassFacts). f.names) one ∙ form) in
        let passes : bytes_eq (class_name c) class ≡ true = find-passes (λ d. bytes_eq (class_name d) class) c fixed_classes e in
        turned class (codes "GLOBAL") ∙ ap (λ d. bytes_eq (class_name d) class) (sym global) ∙ passes

same-form : (rows : Rows) (form : NameForm) (text : List ℕ) → (form ≡ names.Class → is_some (class_of text rows) ≡ true) → is_named_by form text ≡ true → lawful.is_named_by form rows text ≡ true
same-form rows names.DataSet text g h = h
same-form rows names.General text g h = h
same-form rows names.LevelOrCategory text g h = h
same-form rows names.Identifier text g h = h
same-form rows names.Class text g h = g refl

-- the fixed classes set no length of their own
unlimited : (class : FixedClass) → (facts_of_class class).longest ≡ None
unlimited fixed.Dataset = refl
unlimited fixed.Facility = refl
unlimited fixed.Terminal = refl
unlimited fixed.Console = refl
unlimited fixed.Jesinput = refl
unlimited fixed.Appcport = refl
unlimited fixed.Appl = refl
unlimited fixed.Opercmds = refl
unlimited fixed.Surrogat = refl
unlimited fixed.Tapevol = refl
unlimited fixed.Dasdvol = refl
unlimited fixed.Secdata = refl
unlimited fixed.Seclabel = refl
unlimited fixed.Global = refl
unlimited fixed.Cdt = refl

any-length : (class : List ℕ) (facts : ClassFacts) (text : List ℕ) → facts_of class ≡ Some facts → is_short facts text ≡ true
any-length class facts text h = by (fixed_class class) h
  where
    by : (o : Option FixedClass) → option_map facts_of_class o ≡ Some facts → is_short facts text ≡ true
    by None k = absurd cc
    by (Some c) k =
        let one : facts_of_class c ≡ facts = (let a = k in cc) in
        let none : facts.longest ≡ None = ap (λ (f : ClassFacts). f.longest) (sym one) ∙ unlimited c in
        ap (λ l. option_map_or (λ most. nat_le (length text) most) l true) none

-- Of a name in a fixed class its field says whether it is lawful, but for that of a class; of one in a dynamic class the
-- fact does.
name-lawful : (rows : Rows) (class_name : List ℕ) (before : List Profile) (name : Spelled) → (bytes_eq class_name (codes "GLOBAL") ≡ true → is_some (class_of name.text rows) ≡ true)
    → (facts_of class_name ≡ None → is_name_by rows (facts_in class_name rows) name ≡ true) → is_pattern_at class_name before name ≡ true → is_name_by rows (facts_in class_name rows) name ≡ true
unfolding is_pattern_at
name-lawful rows class_name before name g d h =
    by (facts_of class_name) refl d (and_parts (option_map_or (λ facts. is_name_in facts name) (facts_of class_name) true) (comes_behind before name) h).0
  where
    by : (o : Option ClassFacts) → facts_of class_name ≡ o → (o ≡ None → is_name_by rows (option_or o (option_map facts_of_traits (traits_in class_name rows))) name ≡ true) → option_map_or (λ facts. is_name_in facts name) o true ≡ true
        → is_name_by rows (option_or o (option_map facts_of_traits (traits_in class_name rows))) name ≡ true
    by None e d k = d refl
    by (Some facts) e d k =
        let parts = and_parts (is_named_by facts.names name.text) (not (is_generic name) || facts.generic) k in
        and_from _ _ (same-form rows facts.names name.text (λ form. g (is-global class_name facts e form)) parts.0) (and_from _ _ (any-length class_name facts name.text e) parts.1)

-- ---- entries
apart-who : (a b : Who) → bytes_eq (who_text a) (who_text b) ≡ false → is_same_who a b ≡ false
apart-who Star Star h = absurd (true≢false (sym (itself (codes "*")) ∙ h))
apart-who Star (Named id) h = refl
apart-who (Named id) Star h = refl
apart-who (Named id) (Named other) h = h

apart-entries : (x : Entry) (es : List Entry) → AllByRecursion (λ y. bytes_eq (entry_key x) y ≡ false) (map entry_key es) → AllByRecursion (λ y. is_same_who x.who y ≡ false) (map (λ (e : Entry). e.who) es)
apart-entries x [] h = tt
apart-entries x (e ∷ es) h = (apart-who x.who e.who h.0, apart-entries x es h.1)

no-who : IsDistinct is_same_who []
unfolding IsDistinct
no-who = tt

who-distinct : (es : List Entry) → IsDistinct bytes_eq (map entry_key es) → IsDistinct is_same_who (map (λ (e : Entry). e.who) es)
who-distinct [] h = no-who
who-distinct (e ∷ es) h =
    IsDistinct-cons is_same_who e.who (map (λ (f : Entry). f.who) es) (apart-entries e es (IsDistinct-head bytes_eq (entry_key e) (map entry_key es) h)) (who-distinct es (IsDistinct-tail bytes_eq (entry_key e) (map entry_key es) h))

-- two conditional entries for the same users under one condition have one key
same-class : (a b : PortClass) → bytes_eq (port_class_name a) (port_class_name b) ≡ true → port_rank a ≡ port_rank b
same-class Terminal Terminal h = refl
same-class Terminal Console h = absurd cc
same-class Terminal Jesinput h = absurd cc
same-class Terminal Appcport h = absurd cc
same-class Console Terminal h = absurd cc
same-class Console Console h = refl
same-class Console Jesinput h = absurd cc
same-class Console Appcport h = absurd cc
same-class Jesinput Terminal h = absurd cc
same-class Jesinput Console h = absurd cc
same-class Jesinput Jesinput h = refl
same-class Jesinput Appcport h = absurd cc
same-class Appcport Terminal h = absurd cc
same-class Appcport Console h = absurd cc
same-class Appcport Jesinput h = absurd cc
same-class Appcport Appcport h = refl

same-who-text : (a b : Who) → is_same_who a b ≡ true → who_text a ≡ who_text b
same-who-text Star Star h = refl
same-who-text Star (Named id) h = absurd cc
same-who-text (Named id) Star h = absurd cc
same-who-text (Named id) (Named other) h = same id other h

same-key : (a b : CondEntry) → is_same_entry a b ≡ true → cond_entry_key a ≡ cond_entry_key b
same-key a b h =
    let parts = and_parts (is_same_port a.condition b.condition) (is_same_who a.who b.who) h in
    let port = and_parts (bytes_eq (port_class_name a.condition.class) (port_class_name b.condition.class)) (bytes_eq a.condition.name b.condition.name) parts.0 in
    ap (λ rank. rank ∷ (filled a.condition.name ++ who_text a.who)) (same-class a.condition.class b.condition.class port.0)
    ∙ ap (λ name. port_rank b.condition.class ∷ (filled name ++ who_text a.who)) (same a.condition.name b.condition.name port.1)
    ∙ ap (λ who. port_rank b.condition.class ∷ (filled b.condition.name ++ who)) (same-who-text a.who b.who parts.1)

apart-conds : (x : CondEntry) (es : List CondEntry) → AllByRecursion (λ y. bytes_eq (cond_entry_key x) y ≡ false) (map cond_entry_key es) → AllByRecursion (λ y. is_same_entry x y ≡ false) es
apart-conds x [] h = tt
apart-conds x (e ∷ es) h =
    (false_from_ne_true (is_same_entry x e) (λ t. true≢false (sym (itself (cond_entry_key x)) ∙ ap (bytes_eq (cond_entry_key x)) (same-key x e t) ∙ h.0)), apart-conds x es h.1)

no-cond : IsDistinct is_same_entry []
unfolding IsDistinct
no-cond = tt

cond-distinct : (es : List CondEntry) → IsDistinct bytes_eq (map cond_entry_key es) → IsDistinct is_same_entry es
cond-distinct [] h = no-cond
cond-distinct (e ∷ es) h =
    IsDistinct-cons is_same_entry e es (apart-conds e es (IsDistinct-head bytes_eq (cond_entry_key e) (map cond_entry_key es) h)) (cond-distinct es (IsDistinct-tail bytes_eq (cond_entry_key e) (map cond_entry_key es) h))

new-entry : (before : List Entry) (e : Entry) → (entry before).Fits e → IsTrue (is_new (map entry_key before) (entry_key e))
unfolding entry
new-entry before e f = f.0.1

new-cond : (before : List CondEntry) (e : CondEntry) → (cond_entry before).Fits e → IsTrue (is_new (map cond_entry_key before) (cond_entry_key e))
unfolding cond_entry
new-cond before e f = f.1.1.0.1

-- ---- members
or-threes : (b : Bool) → (b || false || false || false) ≡ true → b ≡ true
or-threes true h = refl
or-threes false h = absurd cc

or-falses : (b : Bool) → (b || false || false) ≡ true → b ≡ true
or-falses true h = refl
or-falses false h = absurd cc

or-false : (b : Bool) → (b || false) ≡ true → b ≡ true
or-false true h = refl
or-false false h = absurd cc

module _ (options : Options) (class profile : List ℕ) where
  new-kind : (before : List Member) (m : Member) → (member_of_kind options.categories profile before (member_kind m)).Fits m → IsTrue (is_new (map member_name before) (member_name m))
  new-kind before (members.Access resources level) f = f.0.1.1
  new-kind before (members.SecurityLevel name number) f = f.0.1
  new-kind before (members.Category name) f = (and_parts (is_new (map member_name before) name) (list_any (λ other. bytes_eq other name) options.categories) f.0.1).0
  new-kind before (members.Traits traits) f = (and_parts (nat_lt (trait_flags (members.Traits traits)) 4) (is_new (map member_name before) []) f.0.1).1

  new-member : (before : List Member) (m : Member) → (member options.categories class profile before).Fits m → IsTrue (is_new (map member_name before) (member_name m))
  unfolding member
  new-member before m f = new-kind before m f.1

  kind-fitting : (before : List Member) (m : Member) → is_kind_in class profile (member_kind m) ≡ true → (member_of_kind options.categories profile before (member_kind m)).Fits m → is_member_of options class profile m ≡ true
  kind-fitting before (members.Access resources level) k f =
      and_from _ _ (or-threes (bytes_eq class (codes "GLOBAL")) k) (of-one-kind (kind_in profile) resources.kind (member-kind-back profile resources f.0.1.0.back))
  kind-fitting before (members.SecurityLevel name number) k f =
      let both = or-falses (bytes_eq class (codes "SECDATA") && bytes_eq profile (codes "SECLEVEL")) k in
      let range = and_parts (nat_le 1 number) (nat_le number 254) f.1.0.1 in
      and_from _ _ (and_from _ _ both range.0) range.1
  kind-fitting before (members.Category name) k f =
      and_from _ _ (or-false (bytes_eq class (codes "SECDATA") && bytes_eq profile (codes "CATEGORY")) k) (and_parts (is_new (map member_name before) name) (list_any (λ other. bytes_eq other name) options.categories) f.0.1).1
  kind-fitting before (members.Traits traits) k f =
      let range = and_parts (nat_le 1 traits.longest) (nat_le traits.longest 246) f.1.0.1 in
      and_from _ _ (and_from _ _ k range.0) range.1

  fitting-member : (before : List Member) (m : Member) → (member options.categories class profile before).Fits m → is_member_of options class profile m ≡ true
  unfolding member
  fitting-member before m f = kind-fitting before m f.0.1 f.1

all-true : {A : Type 0} (p : A → Bool) (items : List A) → AllByRecursion (λ x. p x ≡ true) items → list_all p items ≡ true
all-true p [] h = refl
all-true p (x ∷ items) h = and_from _ _ h.0 (all-true p items h.1)

-- ---- how many members a profile has, and that of CDT
few-members : (class : List ℕ) (count : ℕ) → is_member_count class count ≡ true → count ≤ most_members
few-members class count h = by (bytes_eq class cdt) h
  where
    by : (b : Bool) → (if b then count == 1 else nat_le count most_members) ≡ true → count ≤ most_members
    by true k = let one : count ≡ 1 = eqb-true count 1 k in omega (arith, one)
    by false k = leb-true count most_members k

-- In CDT no member is of another kind.
not-cdt : (class other : List ℕ) → bytes_eq class cdt ≡ true → bytes_eq cdt other ≡ false → bytes_eq class other ≡ true → ⊥
not-cdt class other h apart k = true≢false (sym k ∙ ap (λ name. bytes_eq name other) (same class cdt h) ∙ apart)

module _ (options : Options) (class profile : List ℕ) (in_cdt : bytes_eq class cdt ≡ true) where
  one-kind : (m : Member) → is_kind_in class profile (member_kind m) ≡ true → is_some (traits_of (m ∷ [])) ≡ true
  one-kind (members.Access resources level) k = absurd (not-cdt class (codes "GLOBAL") in_cdt refl (or-threes (bytes_eq class (codes "GLOBAL")) k))
  one-kind (members.SecurityLevel name number) k = absurd (not-cdt class (codes "SECDATA") in_cdt refl (and_parts (bytes_eq class (codes "SECDATA")) (bytes_eq profile (codes "SECLEVEL")) (or-falses (bytes_eq class (codes "SECDATA") && bytes_eq profile (codes "SECLEVEL")) k)).0)
  one-kind (members.Category name) k = absurd (not-cdt class (codes "SECDATA") in_cdt refl (and_parts (bytes_eq class (codes "SECDATA")) (bytes_eq profile (codes "CATEGORY")) (or-false (bytes_eq class (codes "SECDATA") && bytes_eq profile (codes "CATEGORY")) k)).0)
  one-kind (members.Traits traits) k = refl

  one-member : (ms : List Member) → length ms ≡ 1 → ItemsFit (member options.categories class profile) [] ms → is_some (traits_of ms) ≡ true
  unfolding member
  one-member [] e f = absurd cc
  one-member (m ∷ []) e f = one-kind m f.0.0.1
  one-member (m ∷ n ∷ ms) e f = absurd cc

traits-there : (options : Options) (class profile : List ℕ) (ms : List Member) → is_member_count class (length ms) ≡ true → ItemsFit (member options.categories class profile) [] ms → IsTrue (not (bytes_eq class cdt) || is_some (traits_of ms))
traits-there options class profile ms h f = by (bytes_eq class cdt) refl h
  where
    by : (b : Bool) → bytes_eq class cdt ≡ b → (if b then length ms == 1 else nat_le (length ms) most_members) ≡ true → IsTrue (not b || is_some (traits_of ms))
    by true e k = one-member options class profile e ms (eqb-true (length ms) 1 k) f
    by false e k = refl

-- ---- one profile, from its fields
record ProfileFits (options : Options) (class : List ℕ) (entries : ℕ) (before : List Profile) (p : Profile) : Type 0 where
  text : pattern_in class p.name.text ≡ Some p.name
  placed : is_pattern_at class before p.name ≡ true
  audit : IsTrue (is_audit p.audit && is_audit p.global_audit)
  categories : (n : ℕ) → is_member p.categories n ≡ true → n < length options.categories
  lists : AreEntries p
  in_all : entries + sum_by entries_in before + entries_in p ≤ most_entries_in_all
  members : AreMembers options class p

profile-fits : (options : Options) (class : List ℕ) (entries : ℕ) (before : List Profile) (p : Profile) → (profile options.categories class entries before).Fits p → ProfileFits options class entries before p
unfolding profile
profile-fits options class entries before p f =
    let success = f.1.1.1.1.0 in
    let failures = f.1.1.1.1.1.0 in
    let global_success = f.1.1.1.1.1.1.0 in
    let global_failures = f.1.1.1.1.1.1.1.0 in
    let set = f.1.1.1.1.1.1.1.1.1.0 in
    let standard = f.1.1.1.1.1.1.1.1.1.1.1.0 in
    let conditional = f.1.1.1.1.1.1.1.1.1.1.1.1.0 in
    let members = f.1.1.1.1.1.1.1.1.1.1.1.1.1.0 in
    let few = and_parts (nat_le (length p.standard) most_list_entries) _ standard.0.1 in
    let few_when = and_parts (nat_le (length p.conditional) most_list_entries) (nat_le (entries + sum_by entries_in before + length p.standard + length p.conditional) most_entries_in_all) conditional.0.1 in
    let in_all : entries + sum_by entries_in before + length p.standard + length p.conditional ≤ most_entries_in_all = leb-true _ _ few_when.1 in
    record {
      text = f.0.1.0.back;
      placed = f.0.1.1;
      audit = and_from _ _ (and_from _ _ (logged p.audit.success success.0) (logged p.audit.failures failures.0)) (and_from _ _ (logged p.global_audit.success global_success.0) (logged p.global_audit.failures global_failures.0));
      categories = few-set p.categories (length options.categories) set.1;
      lists = record {
        distinct = who-distinct p.standard (distinct-items entry_key entry new-entry [] p.standard standard.1);
        few = leb-true _ _ few.0;
        distinct_when = cond-distinct p.conditional (distinct-items cond_entry_key cond_entry new-cond [] p.conditional conditional.1);
        few_when = leb-true _ _ few_when.0;
      };
      in_all = omega (arith, in_all);
      members = record {
        distinct = distinct-items member_name (member options.categories class p.name.text) (new-member options class p.name.text) [] p.members members.1;
        fitting = all-true (is_member_of options class p.name.text) p.members (all-fit (λ m. is_member_of options class p.name.text m ≡ true) (member options.categories class p.name.text) (fitting-member options class p.name.text) [] p.members members.1);
        few = few-members class (length p.members) members.0.1;
        traits = traits-there options class p.name.text p.members members.0.1 members.1;
      };
    }

-- ---- profiles of one class
module _ (rows : Rows) (name : List ℕ) (entries : ℕ) where
  abbrev forms : List Profile → Form Profile
  forms = profile rows.options.categories name entries

  each-profile : (before items : List Profile) → ItemsFit forms before items → (bytes_eq name (codes "GLOBAL") ≡ true → AllByRecursion (λ (p : Profile). is_some (class_of p.name.text rows) ≡ true) items)
      → (facts_of name ≡ None → AllByRecursion (λ (p : Profile). is_name_by rows (facts_in name rows) p.name ≡ true) items) → AllByRecursion (IsProfile rows name) items
  each-profile before [] f g d = tt
  each-profile before (p ∷ items) f g d =
      let fits = profile-fits rows.options name entries before p f.0 in (
        record {
          name = name-lawful rows name before p.name (λ t. (g t).0) (λ n. (d n).0) fits.placed;
          entries = fits.lists;
          audit = fits.audit;
          members = fits.members;
          categories = fits.categories;
        },
        each-profile (before ++ p ∷ []) items f.1 (λ t. (g t).1) (λ n. (d n).1),
      )

  behind-last : (before : List Profile) (p : Profile) (q : Spelled) → comes_behind (before ++ p ∷ []) q ≡ is_before p.name q
  behind-last [] p q = refl
  behind-last (a ∷ []) p q = refl
  behind-last (a ∷ b ∷ before) p q = behind-last (b ∷ before) p q

  placed-behind : (before : List Profile) (q : Spelled) → is_pattern_at name before q ≡ true → comes_behind before q ≡ true
  unfolding is_pattern_at
  placed-behind before q h = (and_parts (option_map_or (λ facts. is_name_in facts q) (facts_of name) true) (comes_behind before q) h).1

  in-order : (before items : List Profile) → ItemsFit forms before items → is_in_order items ≡ true
  in-order before [] f = refl
  in-order before (p ∷ []) f = refl
  in-order before (p ∷ q ∷ items) f =
      and_from _ _ (sym (behind-last before p q.name) ∙ placed-behind (before ++ p ∷ []) q.name (profile-fits rows.options name entries (before ++ p ∷ []) q f.1.0).placed)
      (in-order (before ++ p ∷ []) (q ∷ items) f.1)

  named-profile : (before : List Profile) (p : Profile) → (forms before).Fits p → (pattern_of p.name.kind p.name.text ≡ Ok p.name) × (p.name.kind ≡ kind_in name)
  named-profile before p f = pattern-back name p.name (profile-fits rows.options name entries before p f).text

  are-profiles : (items : List Profile) → ItemsFit forms [] items → length items ≤ most_class_profiles → AreProfiles (kind_in name) items
  are-profiles items f few = record {
    named = all-fit (λ (p : Profile). (pattern_of p.name.kind p.name.text ≡ Ok p.name) × (p.name.kind ≡ kind_in name)) forms named-profile [] items f;
    ordered = in-order [] items f;
    few = few;
  }

  entries-within : (items : List Profile) → ItemsFit forms [] items → entries ≤ most_entries_in_all → entries + sum_by entries_in items ≤ most_entries_in_all
  entries-within items f so_far = sums-within entries_in entries most_entries_in_all forms (λ before p fits rest. (profile-fits rows.options name entries before p fits).in_all) [] items f (omega (arith, so_far))

-- ---- one class
record ClassFits (rows : Rows) (before : List ClassRow) (c : ClassRow) : Type 0 where
  placed : is_class_at (names_of before) c.name ≡ true
  active : IsTrue (not (bytes_eq c.name (codes "DATASET")) || c.active)
  listed : IsTrue (not c.listed || option_map_or (λ (facts : ClassFacts). facts.raclist) (facts_of c.name) true)
  profiles : ItemsFit (profile rows.options.categories c.name (entry_count before)) [] c.profiles
  few : length c.profiles ≤ most_class_profiles
  in_all : profile_count before + length c.profiles ≤ most_profiles

or-turned : (a b c : Bool) → (a || b) ≡ true → c ≡ a → (b || c) ≡ true
or-turned true true c h e = refl
or-turned true false c h e = e
or-turned false true c h e = refl
or-turned false false c h e = absurd cc

listed-as : (a b c : Bool) → (not a || b) ≡ true → c ≡ a → (not c || b) ≡ true
listed-as a b c h e = ap (λ x. not x || b) e ∙ h

class-fits : (rows : Rows) (before : List ClassRow) (c : ClassRow) → (class rows.options.categories before).Fits c → ClassFits rows before c
unfolding class
class-fits rows before c f =
    let active = is_set (class_flags c) 1 || not (bytes_eq c.name (codes "DATASET")) in
    let listed = not (is_set (class_flags c) 2) || option_map_or (λ (facts : ClassFacts). facts.raclist) (facts_of c.name) true in
    let flags = and_parts (nat_lt (class_flags c) 8 && active) listed f.1.0.1 in
    let few_flags = and_parts (nat_lt (class_flags c) 8) active flags.0 in
    let profiles = f.1.1.1.0 in
    let few = and_parts (nat_le (length c.profiles) most_class_profiles) (nat_le (profile_count before + length c.profiles) most_profiles) profiles.0.1 in
    record {
      placed = f.0.1;
      active = or-turned (is_set (class_flags c) 1) (not (bytes_eq c.name (codes "DATASET"))) c.active few_flags.1 (ap (λ (d : ClassRow). d.active) f.1.1.1.1);
      listed = listed-as (is_set (class_flags c) 2) (option_map_or (λ (facts : ClassFacts). facts.raclist) (facts_of c.name) true) c.listed flags.1 (ap (λ (d : ClassRow). d.listed) f.1.1.1.1);
      profiles = profiles.1;
      few = leb-true _ _ few.0;
      in_all = leb-true _ _ few.1;
    }

-- ---- what the facts tell of one class
each-true : {A : Type 0} (place : ℕ → A → ℕ) (holds : A → Bool) (items : List A) → AllByRecursion (λ x. (n : ℕ) × (first_broken (told (place n x) (holds x) ∷ []) ≡ None)) items → AllByRecursion (λ x. holds x ≡ true) items
each-true place holds [] h = tt
each-true place holds (x ∷ items) h = ((one-true (place h.0.0 x) (holds x) [] h.0.1).0, each-true place holds items h.1)

-- one of two lists of facts, by a test
told-by : (b c : Bool) (xs ys : List Fact) → first_broken (if b then xs else ys) ≡ None → b ≡ c → first_broken (if c then xs else ys) ≡ None
told-by b c xs ys h e = subst (λ t. first_broken (if t then xs else ys) ≡ None) e h

-- a class that isn't fixed has no name of a fixed one
not-named : (name other : List ℕ) → is_fixed other ≡ true → is_fixed name ≡ false → bytes_eq name other ≡ false
not-named name other fixed not_fixed = false_from_ne_true (bytes_eq name other) (λ t. true≢false (sym fixed ∙ ap is_fixed (sym (same name other t)) ∙ not_fixed))

not-fixed : (name : List ℕ) → facts_of name ≡ None → is_fixed name ≡ false
not-fixed name h = by (fixed_class name) h
  where
    by : (o : Option FixedClass) → option_map facts_of_class o ≡ None → is_some o ≡ false
    by None k = refl
    by (Some c) k = absurd cc

module _ (rows : Rows) (c : ClassRow) (place : ℕ) (told_all : first_broken (class_facts rows place c) ≡ None) where
  abbrev of_global : List Fact
  of_global = told_of_each profile_width (profile_facts rows) (place + 14) c.profiles

  abbrev of_cdt : List Fact
  of_cdt = told_of_each profile_width (definition_facts rows) (place + 14) c.profiles

  abbrev of_others : List Fact
  of_others = if is_fixed c.name then [] else dynamic_facts rows place c

  global-names : bytes_eq c.name (codes "GLOBAL") ≡ true → AllByRecursion (λ (p : Profile). is_some (class_of p.name.text rows) ≡ true) c.profiles
  global-names global =
      let all = told-by (bytes_eq c.name (codes "GLOBAL")) true of_global (if bytes_eq c.name cdt then of_cdt else of_others) told_all global in
      each-true (λ n p. n + 2) (λ (p : Profile). is_some (class_of p.name.text rows)) c.profiles (each-holds profile_width (profile_facts rows) (place + 14) c.profiles all)

  defined-classes : bytes_eq c.name cdt ≡ true → AllByRecursion (λ (p : Profile). defines_class rows p.name.text ≡ true) c.profiles
  defined-classes in_cdt =
      let not_global : bytes_eq c.name (codes "GLOBAL") ≡ false = ap (λ name. bytes_eq name (codes "GLOBAL")) (same c.name cdt in_cdt) in
      let behind = told-by (bytes_eq c.name (codes "GLOBAL")) false of_global (if bytes_eq c.name cdt then of_cdt else of_others) told_all not_global in
      let all = told-by (bytes_eq c.name cdt) true of_cdt of_others behind in_cdt in
      each-true (λ n p. n + 2) (λ (p : Profile). defines_class rows p.name.text) c.profiles (each-holds profile_width (definition_facts rows) (place + 14) c.profiles all)

  of-dynamic : is_fixed c.name ≡ false → first_broken (dynamic_facts rows place c) ≡ None
  of-dynamic not_fixed =
      let behind = told-by (bytes_eq c.name (codes "GLOBAL")) false of_global (if bytes_eq c.name cdt then of_cdt else of_others) told_all (not-named c.name (codes "GLOBAL") refl not_fixed) in
      let last = told-by (bytes_eq c.name cdt) false of_cdt of_others behind (not-named c.name cdt refl not_fixed) in
      told-by (is_fixed c.name) false [] (dynamic_facts rows place c) last not_fixed

  abbrev of_names : List Fact
  of_names = told_of_each profile_width (name_facts rows (facts_in c.name rows)) (place + 14) c.profiles

  has-profile : is_fixed c.name ≡ false → is_some (profile_of cdt (general c.name) rows) ≡ true
  has-profile not_fixed = (one-true place (is_some (profile_of cdt (general c.name) rows)) of_names (of-dynamic not_fixed)).0

  dynamic-names : is_fixed c.name ≡ false → AllByRecursion (λ (p : Profile). is_name_by rows (facts_in c.name rows) p.name ≡ true) c.profiles
  dynamic-names not_fixed =
      let all = (one-true place (is_some (profile_of cdt (general c.name) rows)) of_names (of-dynamic not_fixed)).1 in
      each-true (λ n p. n + 2) (λ (p : Profile). is_name_by rows (facts_in c.name rows) p.name) c.profiles (each-holds profile_width (name_facts rows (facts_in c.name rows)) (place + 14) c.profiles all)

-- ---- the traits of a dynamic class are in its profile in CDT
module _ (rows : Rows) where
  abbrev class_forms : List ClassRow → Form ClassRow
  class_forms = class rows.options.categories

  abbrev HasTraits : ClassRow → Type 0
  HasTraits c = bytes_eq c.name cdt ≡ true → AllByRecursion (λ (p : Profile). is_some (traits_of p.members) ≡ true) c.profiles

  of-cdt : (before : List ClassRow) (c : ClassRow) → (class_forms before).Fits c → HasTraits c
  of-cdt before c f in_cdt =
      let one : (earlier : List Profile) (p : Profile) → (profile rows.options.categories c.name (entry_count before) earlier).Fits p → is_some (traits_of p.members) ≡ true = λ earlier p fits.
      subst (λ b. IsTrue (not b || is_some (traits_of p.members))) in_cdt (profile-fits rows.options c.name (entry_count before) earlier p fits).members.traits in
      all-fit (λ (p : Profile). is_some (traits_of p.members) ≡ true) (profile rows.options.categories c.name (entry_count before)) one [] c.profiles (class-fits rows before c f).profiles

  module _ (each : AllByRecursion HasTraits rows.classes) where
    traits-found : (name : List ℕ) → is_some (profile_of cdt (general name) rows) ≡ true → is_some (traits_in name rows) ≡ true
    traits-found name h = by (class_of cdt rows) refl h
      where
        within : (c : ClassRow) → class_of cdt rows ≡ Some c → (o : Option Profile) → find (is_profile (general name)) c.profiles ≡ o → is_some o ≡ true → is_some (option_and_then (λ (p : Profile). traits_of p.members) o) ≡ true
        within c e None k i = absurd cc
        within c e (Some p) k i =
            let own : bytes_eq c.name cdt ≡ true = find-passes (is_class cdt) c rows.classes e in
            found-in (λ (q : Profile). is_some (traits_of q.members) ≡ true) (is_profile (general name)) c.profiles p (found-in HasTraits (is_class cdt) rows.classes c each e own) k

        by : (o : Option ClassRow) → class_of cdt rows ≡ o → is_some (option_and_then (λ (row : ClassRow). find (is_profile (general name)) row.profiles) o) ≡ true
            → is_some (option_and_then (λ (p : Profile). traits_of p.members) (option_and_then (λ (row : ClassRow). find (is_profile (general name)) row.profiles) o)) ≡ true
        by None e k = absurd cc
        by (Some c) e k = within c e (find (is_profile (general name)) c.profiles) refl k

    may-list : (listed : Bool) (fixed : Option ClassFacts) (traits : Option ClassTraits) → (fixed ≡ None → is_some traits ≡ true) → IsTrue (not listed || option_map_or (λ (facts : ClassFacts). facts.raclist) fixed true)
        → IsTrue (not listed || option_map_or (λ (facts : ClassFacts). facts.raclist) (option_or fixed (option_map facts_of_traits traits)) false)
    may-list listed None None d h = absurd (true≢false (sym (d refl)))
    may-list listed None (Some traits) d h = h
    may-list listed (Some facts) traits d h = h

    each-class : (before items : List ClassRow) → ItemsFit class_forms before items → AllByRecursion (λ c. (n : ℕ) × (first_broken (class_facts rows n c) ≡ None)) items → AllByRecursion (IsClass rows) items
    each-class before [] f h = tt
    each-class before (c ∷ items) f h =
        let fits = class-fits rows before c f.0 in
        let traits : facts_of c.name ≡ None → is_some (traits_in c.name rows) ≡ true = λ none. traits-found c.name (has-profile rows c h.0.0 h.0.1 (not-fixed c.name none)) in (
          record {
            active = fits.active;
            listed = may-list c.listed (facts_of c.name) (traits_in c.name rows) traits fits.listed;
            profiles = each-profile rows c.name (entry_count before) [] c.profiles fits.profiles (global-names rows c h.0.0 h.0.1) (λ none. dynamic-names rows c h.0.0 h.0.1 (not-fixed c.name none));
          },
          each-class (before ++ c ∷ []) items f.1 h.1,
        )

  lawful-class : (before : List ClassRow) (c : ClassRow) → (class_forms before).Fits c → AreProfiles (kind_in c.name) c.profiles
  lawful-class before c f = let fits = class-fits rows before c f in are-profiles rows c.name (entry_count before) c.profiles fits.profiles fits.few

-- ---- the dynamic classes and their profiles in CDT
module _ (rows : Rows) (told_all : AllByRecursion (λ c. (n : ℕ) × (first_broken (class_facts rows n c) ≡ None)) rows.classes) where
  abbrev Defines : ClassRow → Type 0
  Defines c = bytes_eq c.name cdt ≡ true → AllByRecursion (λ (p : Profile). defines_class rows p.name.text ≡ true) c.profiles

  each-defines : (items : List ClassRow) → AllByRecursion (λ c. (n : ℕ) × (first_broken (class_facts rows n c) ≡ None)) items → AllByRecursion Defines items
  each-defines [] h = tt
  each-defines (c ∷ items) h = (defined-classes rows c h.0.0 h.0.1, each-defines items h.1)

  each-defined : (items : List ClassRow) → AllByRecursion (λ c. (n : ℕ) × (first_broken (class_facts rows n c) ≡ None)) items → AllByRecursion (λ (c : ClassRow). (is_fixed c.name || is_some (profile_of cdt (general c.name) rows)) ≡ true) items
  each-defined [] h = tt
  each-defined (c ∷ items) h = (by (is_fixed c.name) (λ e. has-profile rows c h.0.0 h.0.1 e), each-defined items h.1)
    where
      by : (b : Bool) → (b ≡ false → is_some (profile_of cdt (general c.name) rows) ≡ true) → (b || is_some (profile_of cdt (general c.name) rows)) ≡ true
      by true d = refl
      by false d = d refl

  all-there : IsTrue (list_all (λ (p : Profile). not (is_fixed p.name.text) && is_some (class_of p.name.text rows)) (profiles_of cdt rows))
  all-there = by (class_of cdt rows) refl
    where
      by : (o : Option ClassRow) → class_of cdt rows ≡ o → list_all (λ (p : Profile). not (is_fixed p.name.text) && is_some (class_of p.name.text rows)) (option_map_or (λ (row : ClassRow). row.profiles) o []) ≡ true
      by None e = refl
      by (Some c) e = all-true (λ (p : Profile). not (is_fixed p.name.text) && is_some (class_of p.name.text rows)) c.profiles (found-in Defines (is_class cdt) rows.classes c (each-defines rows.classes told_all) e (find-passes (is_class cdt) c rows.classes e))

  dynamic-classes : AreDynamic rows
  dynamic-classes = record {
    defined = all-true (λ (c : ClassRow). is_fixed c.name || is_some (profile_of cdt (general c.name) rows)) rows.classes (each-defined rows.classes told_all);
    there = all-there;
  }

record ClassesFit (rows : Rows) : Type 0 where
  pub items : ItemsFit (class rows.options.categories) [] rows.classes
  pub many : 15 ≤ length rows.classes
  pub few : length rows.classes ≤ most_classes

classes-fit : (rows : Rows) → IsStored rows → ClassesFit rows
unfolding image_by
classes-fit rows stored =
    let count = and_parts (nat_le 15 (length rows.classes)) (nat_le (length rows.classes) most_classes) stored.fields.1.1.1.0.0.1 in
    record { items = stored.fields.1.1.1.0.1; many = leb-true 15 (length rows.classes) count.0; few = leb-true (length rows.classes) most_classes count.1 }

module _ (rows : Rows) (stored : IsStored rows) where
  fitting : ClassesFit rows
  fitting = classes-fit rows stored

  pub are-classes : AreClasses rows.classes
  are-classes = record {
    names = are-names rows rows.classes fitting.items fitting.many fitting.few;
    lawful = all-fit (λ (c : ClassRow). AreProfiles (kind_in c.name) c.profiles) (class rows.options.categories) (lawful-class rows) [] rows.classes fitting.items;
  }

  pub lawful-classes : AllByRecursion (IsClass rows) rows.classes
  lawful-classes = each-class rows (all-fit (HasTraits rows) (class rows.options.categories) (of-cdt rows) [] rows.classes fitting.items) [] rows.classes fitting.items (holding rows stored.between).classes

  pub are-dynamic : AreDynamic rows
  are-dynamic = dynamic-classes rows (holding rows stored.between).classes

  pub few-profiles : profile_count rows.classes ≤ most_profiles
  few-profiles =
      let one : (before : List ClassRow) (c : ClassRow) → (class rows.options.categories before).Fits c → 0 + profile_count before ≤ most_profiles → 0 + profile_count before + length c.profiles ≤ most_profiles = λ before c f so_far. let k = (class-fits rows before c f).in_all in omega (arith, k) in
      let all = sums-within (λ (c : ClassRow). length c.profiles) 0 most_profiles (class rows.options.categories) one [] rows.classes fitting.items (omega arith) in
      omega (arith, all)

  pub few-entries : entry_count rows.classes ≤ most_entries_in_all
  few-entries =
      let one : (before : List ClassRow) (c : ClassRow) → (class rows.options.categories before).Fits c → 0 + entry_count before ≤ most_entries_in_all → 0 + entry_count before + sum_by entries_in c.profiles ≤ most_entries_in_all = λ before c f so_far.
      let k = entries-within rows c.name (entry_count before) c.profiles (class-fits rows before c f).profiles (omega (arith, so_far)) in omega (arith, k) in
      let all = sums-within (λ (c : ClassRow). sum_by entries_in c.profiles) 0 most_entries_in_all (class rows.options.categories) one [] rows.classes fitting.items (omega arith) in
      omega (arith, all)
