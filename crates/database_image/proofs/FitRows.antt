-- Lawful rows fit, and the facts between their fields hold: an image may hold them.
use Rattle.std.proofs.lemmas.Map.Keys.{IsDistinct-head, IsDistinct-tail}
use Rattle.std.proofs.Common.{append_assoc, take, zero, suc, ◌<◌, ltb-true, Option, ◌≡◌, ℕ, ◌+◌, ◌≤◌, Bool, true, false, List, [], ◌∷◌, ◌++◌, length, Some, None, is_some, bytes_eq, refl, sym, ap, subst, ◌∙◌, arith}
use Rattle.std.specs.Prelude.{not, ◌||◌, nat_lt, codes, if◌then◌else◌}
use Rattle.std.specs.List.{AllByRecursion, IsDistinct, list_any, list_all, find, sum_by, slice_get}
use Rattle.std.specs.Option.{option_map, option_map_or, option_or, option_eq}
use Rattle.std.proofs.lemmas.Bool.{and_parts, and_from}
use Rattle.std.proofs.lemmas.List.{map-append, length-map, length-take}
use Rattle.std.proofs.lemmas.List.Sums.{sum_by-append, sum_by-cons}
use Rattle.generic_names.specs.Covers.{is_generic}
use Rattle.racf_profiles.specs.declared.profiles.Profile.{Profile}
use Rattle.racf_profiles.specs.declared.class_rows.ClassRow.{ClassRow}
use Rattle.racf_profiles.specs.declared.fixed_classes.ClassFacts.{ClassFacts}
use Rattle.racf_profiles.specs.declared.rows.Rows.{Rows}
use Rattle.racf_profiles.specs.ClassTable.{facts_of}
use Rattle.racf_profiles.specs.DynamicClasses.{cdt, general, is_fixed, traits_in, facts_of_traits, facts_in}
use Rattle.racf_profiles.specs.Counts.{profile_count, entry_count, entries_in}
use Rattle.racf_profiles.specs.Lookup.{is_class, class_of, profile_of}
use Rattle.racf_profiles.specs.Names.{is_special_user}
use Rattle.racf_profiles.specs.LawfulProfiles.{kind_in, names_of, profiles_of, is_profile_name, AreProfiles, IsProfile, IsClass}
use Rattle.racf_profiles.specs.Lawful.{AreLawful}
use Rattle.racf_profiles.proofs.Named.{same, itself}
use Rattle.database_image.specs.Forms.{ItemsFit}
use Rattle.database_image.specs.Fields.{is_new}
use Rattle.database_image.specs.Description.{fixed_names, class_flags, are_class_flags, is_class_at, class, image_by, image}
use Rattle.database_image.specs.Facts.{told_of_each, first_broken, group_width, user_width, class_width, profile_width, group_facts, user_facts, class_facts, profile_facts, definition_facts, defines_class, name_facts, is_name_by, dynamic_facts, groups_place, users_place, classes_place, later_facts, facts}
use Rattle.database_image.specs.Image.{IsStored}
use Rattle.database_image.specs.Spelled.{IsSpelledClass, AreSpelled}
use Rattle.database_image.proofs.Told.{none-first, one-holds}
use Rattle.database_image.proofs.JudgedRows.{flags-class, class-below, class-set-1, class-set-2}
use Rattle.database_image.proofs.FitFields.{spelled-number, at-most, below-limit, spelled-id, spelled-log, items-fit, new-behind}
use Rattle.database_image.proofs.FitGroups.{options-fit, groups-fit, groups-hold, each-true, all-of, all-both}
use Rattle.database_image.proofs.FitUsers.{users-fit, users-hold, all-pass}
use Rattle.database_image.proofs.FitProfiles.{profiles-fit}

-- ---- classes by their places
at-place : (before : List (List ℕ)) (q : List ℕ) (rest : List (List ℕ)) → slice_get (before ++ q ∷ rest) (length before) ≡ Some q
at-place [] q rest = refl
at-place (b ∷ before) q rest = at-place before q rest

turned-or : (a b : Bool) → (a || b) ≡ true → (b || a) ≡ true
turned-or true true h = refl
turned-or true false h = refl
turned-or false true h = refl
turned-or false false h = absurd cc

slice-taken : (names : List (List ℕ)) (count n : ℕ) → n < count → slice_get (take count names) n ≡ slice_get names n
slice-taken names zero n h = absurd (omega (arith, h))
slice-taken [] (suc count) n h = refl
slice-taken (name ∷ names) (suc count) zero h = refl
slice-taken (name ∷ names) (suc count) (suc n) h = slice-taken names count n (omega (arith, h))

-- ---- a class among classes of distinct names is found by its own
name-in : (P : List ℕ → Type 0) (before : List ClassRow) (c : ClassRow) (rest : List ClassRow) → AllByRecursion P (names_of (before ++ c ∷ rest)) → P c.name
name-in P [] c rest h = h.0
name-in P (b ∷ before) c rest h = name-in P before c rest h.1

found-own : (before : List ClassRow) (c : ClassRow) (rest : List ClassRow) → IsDistinct bytes_eq (names_of (before ++ c ∷ rest)) → find (is_class c.name) (before ++ c ∷ rest) ≡ Some c
found-own [] c rest h = ap (λ b. if b then Some c else find (is_class c.name) rest) (itself c.name)
found-own (b ∷ before) c rest h =
    let other : bytes_eq b.name c.name ≡ false = name-in (λ y. bytes_eq b.name y ≡ false) before c rest (IsDistinct-head bytes_eq b.name (names_of (before ++ c ∷ rest)) h) in
    ap (λ t. if t then Some b else find (is_class c.name) (before ++ c ∷ rest)) other ∙ found-own before c rest (IsDistinct-tail bytes_eq b.name (names_of (before ++ c ∷ rest)) h)

-- what may be listed by the rows may be so by the class table
listed-so : (fixed : Option ClassFacts) (traits : Option ClassFacts) (listed : Bool) → (not listed || option_map_or (λ (facts : ClassFacts). facts.raclist) (option_or fixed traits) false) ≡ true → (not listed || option_map_or (λ (facts : ClassFacts). facts.raclist) fixed true) ≡ true
listed-so None traits true h = refl
listed-so None traits false h = refl
listed-so (Some facts) traits listed h = h

module _ (rows : Rows) (lawful : AreLawful rows) (spelled : AreSpelled rows) where
  class-named : (before : List ClassRow) (c : ClassRow) (rest : List ClassRow) → before ++ c ∷ rest ≡ rows.classes → is_class_at (names_of before) c.name ≡ true
  class-named before c rest e =
      let names : names_of rows.classes ≡ names_of before ++ c.name ∷ names_of rest = ap names_of (sym e) ∙ map-append (λ (d : ClassRow). d.name) before (c ∷ rest) in
      by (nat_lt (length (names_of before)) (length fixed_names)) refl names
    where
      by : (b : Bool) → nat_lt (length (names_of before)) (length fixed_names) ≡ b → names_of rows.classes ≡ names_of before ++ c.name ∷ names_of rest
          → (if b then option_eq bytes_eq (slice_get fixed_names (length (names_of before))) (Some c.name) else is_new (names_of before) c.name) ≡ true
      by true k names =
          let found : slice_get fixed_names (length (names_of before)) ≡ Some c.name =
          ap (λ (ns : List (List ℕ)). slice_get ns (length (names_of before))) (sym lawful.classes.names.fixed)
          ∙ slice-taken (names_of rows.classes) (length fixed_names) (length (names_of before)) (ltb-true _ _ k)
          ∙ ap (λ (ns : List (List ℕ)). slice_get ns (length (names_of before))) names
          ∙ at-place (names_of before) c.name (names_of rest) in
          ap (λ o. option_eq bytes_eq o (Some c.name)) found ∙ itself c.name
      by false k names = new-behind (names_of before) c.name (names_of rest) (subst (IsDistinct bytes_eq) names lawful.classes.names.distinct)

  flags-lawful : (c : ClassRow) → IsClass rows c → are_class_flags c.name (class_flags c) ≡ true
  flags-lawful c is =
      and_from _ _
      (and_from _ _ (below-limit (class_flags c) 8 (class-below c)) (ap (λ b. b || not (bytes_eq c.name (codes "DATASET"))) (class-set-1 c) ∙ turned-or (not (bytes_eq c.name (codes "DATASET"))) c.active is.active))
      (ap (λ b. not b || option_map_or (λ (facts : ClassFacts). facts.raclist) (facts_of c.name) true) (class-set-2 c) ∙ listed-so (facts_of c.name) (option_map facts_of_traits (traits_in c.name rows)) c.listed is.listed)

  abbrev IsOne : ClassRow → Type 0
  IsOne c = IsSpelledClass c × (IsClass rows c × AreProfiles (kind_in c.name) c.profiles)

  class-fits : (before : List ClassRow) (c : ClassRow) (rest : List ClassRow) → before ++ c ∷ rest ≡ rows.classes → IsOne c → (class rows.options.categories before).Fits c
  unfolding class
  class-fits before c rest e k =
      let s = k.0 in
      let is = k.1.0 in
      let are = k.1.1 in
      let count : profile_count rows.classes ≡ profile_count before + (length c.profiles + profile_count rest) = ap profile_count (sym e) ∙ sum_by-append (λ (d : ClassRow). length d.profiles) before (c ∷ rest) ∙ ap (λ n. profile_count before + n) (sum_by-cons (λ (d : ClassRow). length d.profiles) c rest) in
      let held : entry_count rows.classes ≡ entry_count before + (sum_by entries_in c.profiles + entry_count rest) = ap entry_count (sym e) ∙ sum_by-append (λ (d : ClassRow). sum_by entries_in d.profiles) before (c ∷ rest) ∙ ap (λ n. entry_count before + n) (sum_by-cons (λ (d : ClassRow). sum_by entries_in d.profiles) c rest) in
      let few_in_all : profile_count before + length c.profiles ≤ 100000 = omega (arith, count, lawful.few_profiles) in
      let few_entries : entry_count before + sum_by entries_in c.profiles ≤ 1000000 = omega (arith, held, lawful.few_entries) in (
        (spelled-id c.name s.name, class-named before c rest e),
        (
          (spelled-number 1 (class_flags c) (omega (arith, class-below c)), flags-lawful c is),
          (
            (spelled-log c.log, refl),
            (
              (
                (spelled-number 4 (length c.profiles) (omega (arith, are.few)), and_from _ _ (at-most (length c.profiles) 50000 are.few) (at-most (profile_count before + length c.profiles) 100000 few_in_all)),
                profiles-fit rows lawful spelled c.name (entry_count before) c.profiles are few_entries s.profiles is.profiles,
              ),
              flags-class c,
            ),
          ),
        ),
      )

  classes-fit : ItemsFit (class rows.options.categories) [] rows.classes
  classes-fit =
      items-fit (class rows.options.categories) IsOne rows.classes class-fits [] rows.classes refl
      (all-both IsSpelledClass (λ c. IsClass rows c × AreProfiles (kind_in c.name) c.profiles) rows.classes spelled.classes (all-both (IsClass rows) (λ c. AreProfiles (kind_in c.name) c.profiles) rows.classes lawful.each_class lawful.classes.lawful))

  many-names : (names : List (List ℕ)) → take (length fixed_names) names ≡ fixed_names → 15 ≤ length names
  many-names names h = let k : length (take 15 names) ≡ 15 = ap length h in omega (arith, k, length-take 15 names)

  named-all : length (names_of rows.classes) ≡ length rows.classes
  named-all = length-map rows.classes (λ (d : ClassRow). d.name)

  few-classes : length rows.classes ≤ 47
  few-classes = omega (arith, named-all, lawful.classes.names.few)

  many-classes : 15 ≤ length rows.classes
  many-classes = omega (arith, named-all, many-names (names_of rows.classes) lawful.classes.names.fixed)

  fields : image.Fits rows
  unfolding image_by
  fields = (
    options-fit rows.options spelled.categories lawful.categories,
    (
      ((spelled-number 4 (length rows.groups) (omega (arith, lawful.groups.most)), at-most (length rows.groups) 8000 lawful.groups.most), groups-fit rows lawful spelled),
      (
        ((spelled-number 4 (length rows.users) (omega (arith, lawful.users.few)), at-most (length rows.users) 20000 lawful.users.few), users-fit rows lawful spelled),
        (((spelled-number 2 (length rows.classes) (omega (arith, few-classes)), and_from _ _ (at-most 15 (length rows.classes) many-classes) (at-most (length rows.classes) 47 few-classes)), classes-fit), refl),
      ),
    ),
  )

  -- ---- the profiles of GLOBAL have names of classes
  global-named : (p : Profile) → option_map_or (is_profile_name rows p.name) (facts_in (codes "GLOBAL") rows) false ≡ true → is_some (class_of p.name.text rows) ≡ true
  global-named p h = (and_parts (is_some (class_of p.name.text rows)) (not (is_generic p.name) || false) h).0

  -- those of CDT have names of dynamic classes
  definitions-hold : (c : ClassRow) → bytes_eq c.name cdt ≡ true → class_of c.name rows ≡ Some c → AllByRecursion (λ (p : Profile). defines_class rows p.name.text ≡ true) c.profiles
  definitions-hold c e found =
      let own : class_of cdt rows ≡ Some c = subst (λ name. class_of name rows ≡ Some c) (same c.name cdt e) found in
      let profiles : profiles_of cdt rows ≡ c.profiles = ap (λ o. option_map_or (λ (row : ClassRow). row.profiles) o []) own in
      all-pass (λ (p : Profile). defines_class rows p.name.text) c.profiles (subst (λ ps. list_all (λ (p : Profile). defines_class rows p.name.text) ps ≡ true) profiles lawful.dynamic.there)

  defined-so : (fixed there : Bool) → (fixed || there) ≡ true → fixed ≡ false → there ≡ true
  defined-so true there h e = absurd cc
  defined-so false there h e = h

  class-holds : (c : ClassRow) → IsClass rows c → class_of c.name rows ≡ Some c → (is_fixed c.name || is_some (profile_of cdt (general c.name) rows)) ≡ true → (place : ℕ) → first_broken (class_facts rows place c) ≡ None
  class-holds c is found defined place = by (bytes_eq c.name (codes "GLOBAL")) refl (bytes_eq c.name cdt) refl (is_fixed c.name) refl
    where
      by : (g : Bool) → bytes_eq c.name (codes "GLOBAL") ≡ g → (d : Bool) → bytes_eq c.name cdt ≡ d → (f : Bool) → is_fixed c.name ≡ f
          → first_broken (if g then told_of_each profile_width (profile_facts rows) (place + 14) c.profiles else if d then told_of_each profile_width (definition_facts rows) (place + 14) c.profiles else if f then [] else dynamic_facts rows place c) ≡ None
      by true e d k f l =
          each-true profile_width (profile_facts rows) c.profiles
          (all-of (IsProfile rows c.name) (λ p. (at : ℕ) → first_broken (profile_facts rows at p) ≡ None)
          (λ p h at. one-holds (at + 2) (is_some (class_of p.name.text rows)) [] (global-named p (subst (λ n. option_map_or (is_profile_name rows p.name) (facts_in n rows) false ≡ true) (same c.name (codes "GLOBAL") e) h.name))) c.profiles is.profiles)
          (place + 14)
      by false e true k f l =
          each-true profile_width (definition_facts rows) c.profiles
          (all-of (λ (p : Profile). defines_class rows p.name.text ≡ true) (λ p. (at : ℕ) → first_broken (definition_facts rows at p) ≡ None) (λ p h at. one-holds (at + 2) (defines_class rows p.name.text) [] h) c.profiles (definitions-hold c k found))
          (place + 14)
      by false e false k true l = refl
      by false e false k false l =
          one-holds place (is_some (profile_of cdt (general c.name) rows)) (told_of_each profile_width (name_facts rows (facts_in c.name rows)) (place + 14) c.profiles) (defined-so (is_fixed c.name) (is_some (profile_of cdt (general c.name) rows)) defined l)
          ∙ each-true profile_width (name_facts rows (facts_in c.name rows)) c.profiles
          (all-of (IsProfile rows c.name) (λ p. (at : ℕ) → first_broken (name_facts rows (facts_in c.name rows) at p) ≡ None) (λ p h at. one-holds (at + 2) (is_name_by rows (facts_in c.name rows) p.name) [] h.name) c.profiles is.profiles)
          (place + 14)

  -- each class is the one that is found by its name
  abbrev IsHeld : ClassRow → Type 0
  IsHeld c = IsClass rows c × ((is_fixed c.name || is_some (profile_of cdt (general c.name) rows)) ≡ true)

  hold-from : (before items : List ClassRow) → before ++ items ≡ rows.classes → AllByRecursion IsHeld items → AllByRecursion (λ c. (p : ℕ) → first_broken (class_facts rows p c) ≡ None) items
  hold-from before [] e h = tt
  hold-from before (c ∷ items) e h =
      let found : class_of c.name rows ≡ Some c = subst (λ (all : List ClassRow). find (is_class c.name) all ≡ Some c) e (found-own before c items (subst (λ (all : List ClassRow). IsDistinct bytes_eq (names_of all)) (sym e) lawful.classes.names.distinct)) in
      (class-holds c h.0.0 found h.0.1, hold-from (before ++ c ∷ []) items (append_assoc before (c ∷ []) items ∙ e) h.1)

  classes-hold : (place : ℕ) → first_broken (told_of_each class_width (class_facts rows) place rows.classes) ≡ None
  classes-hold place =
      each-true class_width (class_facts rows) rows.classes
      (hold-from [] rows.classes refl (all-both (IsClass rows) (λ c. (is_fixed c.name || is_some (profile_of cdt (general c.name) rows)) ≡ true) rows.classes lawful.each_class (all-pass (λ (c : ClassRow). is_fixed c.name || is_some (profile_of cdt (general c.name) rows)) rows.classes lawful.dynamic.defined)))
      place

  between : first_broken (facts rows) ≡ None
  between =
      let users = told_of_each user_width (user_facts rows) (users_place rows + 4) rows.users in
      let classes = told_of_each class_width (class_facts rows) (classes_place rows) rows.classes in
      none-first (told_of_each group_width (group_facts rows) (groups_place rows) rows.groups) (later_facts rows) (groups-hold rows lawful spelled group_width (groups_place rows))
      ∙ one-holds (users_place rows) (list_any is_special_user rows.users) (users ++ classes) lawful.special_user
      ∙ none-first users classes (users-hold rows lawful spelled (users_place rows + 4))
      ∙ classes-hold (classes_place rows)

  pub stored : IsStored rows
  stored = record { fields = fields; between = between }
