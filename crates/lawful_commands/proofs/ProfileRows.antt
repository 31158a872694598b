-- The rows are lawful after a profile was put or dropped, where it is lawful and the limits are kept.
use Rattle.std.proofs.Common.{◌≡◌, ℕ, ◌+◌, ◌≤◌, Bool, true, false, cond, List, [], ◌∷◌, length, map, Option, None, Some, bytes_eq, refl, sym, ap, subst, ◌∙◌, arith}
use Rattle.std.specs.Prelude.{find, sum_by}
use Rattle.std.specs.List.{AllByRecursion}
use Rattle.std.specs.Option.{option_map_or, option_and_then}
use Rattle.generic_names.specs.Spelled.{Spelled}
use Rattle.generic_names.specs.Laws.{IsPattern, OneIsBefore, PassedOn}
use Rattle.generic_names.specs.declared.kind.NameKind.{NameKind}
use Rattle.racf_profiles.specs.declared.profiles.Profile.{Profile}
use Rattle.racf_profiles.specs.declared.class_rows.ClassRow.{ClassRow}
use Rattle.racf_profiles.specs.declared.options.Options.{Options}
use Rattle.racf_profiles.specs.declared.rows.Rows.{Rows}
use Rattle.racf_profiles.specs.Limits.{most_class_profiles, most_profiles, most_entries_in_all}
use Rattle.racf_profiles.specs.Lookup.{is_class, is_profile, class_of, profile_of}
use Rattle.racf_profiles.specs.Counts.{profile_count, entry_count, entries_in}
use Rattle.racf_profiles.specs.Edits.{put_profile, drop_row, at_class, with_profile, without_profile}
use Rattle.racf_profiles.specs.LawfulProfiles.{AreProfiles, AreClasses, IsProfile, IsClass, kind_in}
use Rattle.racf_profiles.specs.Lawful.{AreLawful, AreCategories}
use Rattle.racf_profiles.proofs.EditLaws.{at_class-absent, all-drop_row, length-drop_row}
use Rattle.racf_profiles.proofs.OrderedProfiles.{all-put_profile, put_profile-in_order, profile-put, order-drop_row}
use Rattle.racf_profiles.proofs.States.{find-passes, same_class}
use Rattle.racf_profiles.proofs.Found.{all-found}
use Rattle.group_tree.proofs.Rows.{same}
use Rattle.class_profiles.specs.Classes.{profile_in}
use Rattle.row_tables.specs.ChangedRow.{at_row}
use Rattle.row_tables.proofs.RowLaws.{sum-drop_row}
use Rattle.command_rules.specs.ProfileEffects.{profile_put, profile_dropped, profile_changed}
use Rattle.lawful_commands.proofs.RowLists.{all-at, names-at, sum-at-le}
use Rattle.racf_profiles.specs.DynamicClasses.{cdt, traits_of}
use Rattle.lawful_commands.proofs.ClassTraits.{said_by, said_in, said-elsewhere, said-replaced}
use Rattle.lawful_commands.proofs.Kept.{Extends, extends_itself, classes-changed}

-- ---- a change of one class is a change of the row that is found
at_class-at_row : (name : List ℕ) (change : ClassRow → ClassRow) (classes : List ClassRow) → at_class name change classes ≡ at_row (is_class name) change classes
at_class-at_row name change [] = refl
at_class-at_row name change (class ∷ classes) = ap (λ rest. cond (is_class name class) (change class ∷ classes) (class ∷ rest)) (at_class-at_row name change classes)

pub all-at_class : (P : ClassRow → Type 0) (name : List ℕ) (change : ClassRow → ClassRow) (classes : List ClassRow) → ((row : ClassRow) → find (is_class name) classes ≡ Some row → P row → P (change row)) → AllByRecursion P classes
    → AllByRecursion P (at_class name change classes)
all-at_class P name change classes f h = subst (AllByRecursion P) (sym (at_class-at_row name change classes)) (all-at P (is_class name) change classes f h)

pub names-at_class : (name : List ℕ) (change : ClassRow → ClassRow) → ((row : ClassRow) → (change row).name ≡ row.name) → (classes : List ClassRow)
    → map (λ (class : ClassRow). class.name) (at_class name change classes) ≡ map (λ (class : ClassRow). class.name) classes
names-at_class name change keeps classes = ap (map (λ (class : ClassRow). class.name)) (at_class-at_row name change classes) ∙ names-at (λ (class : ClassRow). class.name) (is_class name) change keeps classes

pub sum-at_class-le : (weight : ClassRow → ℕ) (name : List ℕ) (change : ClassRow → ClassRow) (classes : List ClassRow) → ((row : ClassRow) → find (is_class name) classes ≡ Some row → weight (change row) ≤ weight row)
    → sum_by weight (at_class name change classes) ≤ sum_by weight classes
sum-at_class-le weight name change classes less = omega (arith, ap (sum_by weight) (at_class-at_row name change classes), sum-at-le weight (is_class name) change classes less)

-- the class that was changed is found
pub found-at_class : (name : List ℕ) (change : ClassRow → ClassRow) → ((row : ClassRow) → (change row).name ≡ row.name) → (row : ClassRow) (classes : List ClassRow) → find (is_class name) classes ≡ Some row
    → find (is_class name) (at_class name change classes) ≡ Some (change row)
found-at_class name change keeps row [] found = cc
found-at_class name change keeps row (class ∷ classes) found = by (is_class name class) refl found (found-at_class name change keeps row classes)
  where
    by : (b : Bool) → is_class name class ≡ b → cond b (Some class) (find (is_class name) classes) ≡ Some row
        → (find (is_class name) classes ≡ Some row → find (is_class name) (at_class name change classes) ≡ Some (change row))
        → find (is_class name) (cond b (change class ∷ classes) (class ∷ at_class name change classes)) ≡ Some (change row)
    by true e f rest =
        let here : class ≡ row = cc in
        ap (λ b. cond b (Some (change class)) (find (is_class name) classes)) (ap (λ n. bytes_eq n name) (keeps class) ∙ e) ∙ ap (λ (r : ClassRow). Some (change r)) here
    by false e f rest = ap (λ b. cond b (Some class) (find (is_class name) (at_class name change classes))) e ∙ rest f

-- ---- a profile that is put counts in place of the one of its name, if there was one
pub record PutsAreCounted : Type 0 where
  pub length : (kind : NameKind) (profile : Profile) (profiles : List Profile) → AreProfiles kind profiles → profile.name.kind ≡ kind → length (put_profile profile profiles) + option_map_or (λ _. 1) (find (is_profile profile.name) profiles) 0 ≡ length profiles + 1
  pub profiles : (class : List ℕ) (row : ClassRow) (profile : Profile) (classes : List ClassRow) → AreClasses classes → find (is_class class) classes ≡ Some row → profile.name.kind ≡ kind_in class
      → profile_count (at_class class (with_profile profile) classes) + option_map_or (λ _. 1) (profile_in class profile.name classes) 0 ≡ profile_count classes + 1
  pub entries : (class : List ℕ) (row : ClassRow) (profile : Profile) (classes : List ClassRow) → AreClasses classes → find (is_class class) classes ≡ Some row → profile.name.kind ≡ kind_in class
      → entry_count (at_class class (with_profile profile) classes) + option_map_or entries_in (profile_in class profile.name classes) 0 ≡ entry_count classes + entries_in profile

module _ (one : OneIsBefore) (puts : PutsAreCounted) (passed_on : PassedOn) where
  pub put-profiles : (kind : NameKind) (profile : Profile) (profiles : List Profile) → IsPattern profile.name → profile.name.kind ≡ kind → length (put_profile profile profiles) ≤ most_class_profiles → AreProfiles kind profiles
      → AreProfiles kind (put_profile profile profiles)
  put-profiles kind profile profiles lawful is few are = record {
    named = all-put_profile (λ (p : Profile). IsPattern p.name × (p.name.kind ≡ kind)) profile profiles (lawful, is) are.named;
    ordered = put_profile-in_order one kind profile profiles lawful is are.named are.ordered;
    few = few;
  }

  pub drop-profiles : (kind : NameKind) (goes : Profile → Bool) (profiles : List Profile) → AreProfiles kind profiles → AreProfiles kind (drop_row goes profiles)
  drop-profiles kind goes profiles are = record {
    named = all-drop_row (λ (p : Profile). IsPattern p.name × (p.name.kind ≡ kind)) goes profiles are.named;
    ordered = order-drop_row passed_on goes profiles are.ordered;
    few = omega (arith, are.few, length-drop_row goes profiles);
  }

  -- ---- a profile is put, and maybe categories are defined
  pub profile-put-lawful : (rows : Rows) (class : List ℕ) (profile : Profile) (options : Options) → AreLawful rows
      → IsPattern profile.name → profile.name.kind ≡ kind_in class → ((row : ClassRow) → class_of class rows ≡ Some row → IsProfile (record rows { options = options }) class profile)
      → ((row : ClassRow) → class_of class rows ≡ Some row → length (put_profile profile row.profiles) ≤ most_class_profiles)
      → profile_count (at_class class (with_profile profile) rows.classes) ≤ most_profiles → entry_count (at_class class (with_profile profile) rows.classes) ≤ most_entries_in_all
      → AllByRecursion (IsClass (record rows { options = options })) rows.classes → Extends rows.options options → AreCategories options
      → (let new : Rows = record rows { classes = at_class class (with_profile profile) rows.classes; options = options } in said_in new ≡ said_in rows)
      → AreLawful (record rows { classes = at_class class (with_profile profile) rows.classes; options = options })
  profile-put-lawful rows class profile options lawful pattern kind is few_in_class few few_entries each extends categories said =
      classes-changed rows (at_class class (with_profile profile) rows.classes) options lawful
      (names-at_class class (with_profile profile) (λ row. refl) rows.classes) said
      (all-at_class (λ (row : ClassRow). AreProfiles (kind_in row.name) row.profiles) class (with_profile profile) rows.classes
      (λ row found are. put-profiles (kind_in row.name) profile row.profiles pattern (kind ∙ ap kind_in (sym (same_class class row rows.classes found))) (few_in_class row found) are) lawful.classes.lawful)
      (all-at_class (IsClass (record rows { options = options })) class (with_profile profile) rows.classes
      (λ row found own. record {
        active = own.active;
        listed = own.listed;
        profiles = all-put_profile (IsProfile (record rows { options = options }) row.name) profile row.profiles
            (subst (λ (n : List ℕ). IsProfile (record rows { options = options }) n profile) (sym (same_class class row rows.classes found)) (is row found)) own.profiles;
      }) each)
      few few_entries extends categories

  -- ---- a profile is dropped
  pub profile-dropped-lawful : (rows : Rows) (class : List ℕ) (name : Spelled) → bytes_eq class cdt ≡ false → AreLawful rows → AreLawful (profile_dropped class name rows)
  profile-dropped-lawful rows class name other lawful =
      classes-changed rows (at_class class (without_profile name) rows.classes) rows.options lawful
      (names-at_class class (without_profile name) (λ row. refl) rows.classes)
      (said-elsewhere class (without_profile name) (λ row. refl) rows (profile_dropped class name rows) refl other)
      (all-at_class (λ (row : ClassRow). AreProfiles (kind_in row.name) row.profiles) class (without_profile name) rows.classes (λ row found are. drop-profiles (kind_in row.name) (is_profile name) row.profiles are) lawful.classes.lawful)
      (all-at_class (IsClass rows) class (without_profile name) rows.classes
      (λ row found own. record { active = own.active; listed = own.listed; profiles = all-drop_row (IsProfile rows row.name) (is_profile name) row.profiles own.profiles }) lawful.each_class)
      (omega (arith, lawful.few_profiles, sum-at_class-le (λ (row : ClassRow). length row.profiles) class (without_profile name) rows.classes (λ row found. length-drop_row (is_profile name) row.profiles)))
      (omega (arith, lawful.few_entries, sum-at_class-le (λ (row : ClassRow). sum_by entries_in row.profiles) class (without_profile name) rows.classes (λ row found. omega (arith, sum-drop_row (is_profile name) entries_in row.profiles))))
      (extends_itself rows.options) lawful.categories

  -- ---- a profile is changed, and keeps its name
  said-as : (new old : Profile) (was : Profile) → new.name.text ≡ was.name.text → traits_of new.members ≡ traits_of was.members → was ≡ old → said_by new ≡ said_by old
  said-as new old was text traits same =
      ap (λ t. (t, traits_of new.members)) text ∙ ap (λ traits. (was.name.text, traits)) traits ∙ ap said_by same

  -- the profile of that name stands in the class of that name
  pub found-profile : (class : List ℕ) (name : Spelled) (rows : Rows) (old : Profile) → profile_of class name rows ≡ Some old → (row : ClassRow) × (class_of class rows ≡ Some row) × (find (is_profile name) row.profiles ≡ Some old)
  found-profile class name rows old found = by (class_of class rows) refl found
    where
      by : (o : Option ClassRow) → class_of class rows ≡ o → option_and_then (λ (row : ClassRow). find (is_profile name) row.profiles) o ≡ Some old → (row : ClassRow) × (class_of class rows ≡ Some row) × (find (is_profile name) row.profiles ≡ Some old)
      by None e f = cc
      by (Some row) e f = (row, e, f)

  module _ (rows : Rows) (lawful : AreLawful rows) (class : List ℕ) (name : Spelled) (row : ClassRow) (here : class_of class rows ≡ Some row) where
    pub are-profiles : AreProfiles (kind_in row.name) row.profiles
    are-profiles = all-found (λ (r : ClassRow). AreProfiles (kind_in r.name) r.profiles) (is_class class) rows.classes row lawful.classes.lawful here

    pub is-class : IsClass rows row
    is-class = all-found (IsClass rows) (is_class class) rows.classes row lawful.each_class here

    module _ (old new : Profile) (found : find (is_profile name) row.profiles ≡ Some old) (keeps : new.name ≡ old.name) where
      own-text : new.name.text ≡ name.text
      own-text = ap (λ (n : Spelled). n.text) keeps ∙ same old.name.text name.text (find-passes (is_profile name) old row.profiles found)

      found-again : find (is_profile new.name) row.profiles ≡ Some old
      found-again = ap (λ text. find (λ (p : Profile). bytes_eq p.name.text text) row.profiles) own-text ∙ found

      own-named : IsPattern old.name × (old.name.kind ≡ kind_in row.name)
      own-named = all-found (λ (p : Profile). IsPattern p.name × (p.name.kind ≡ kind_in row.name)) (is_profile name) row.profiles old are-profiles.named found

      pub new-pattern : IsPattern new.name
      new-pattern = subst IsPattern (sym keeps) own-named.0

      pub new-kind : new.name.kind ≡ kind_in row.name
      new-kind = ap (λ (n : Spelled). n.kind) keeps ∙ own-named.1

      new-kind_in : new.name.kind ≡ kind_in class
      new-kind_in = new-kind ∙ ap kind_in (same_class class row rows.classes here)

      profile-again : profile_in class new.name rows.classes ≡ Some old
      profile-again = ap (λ (o : Option ClassRow). option_and_then (λ (r : ClassRow). find (is_profile new.name) r.profiles) o) here ∙ found-again

      pub length-replaced : length (put_profile new row.profiles) ≡ length row.profiles
      length-replaced =
          let once : Profile → ℕ = λ q. 1 in
          let counted : option_map_or once (find (is_profile new.name) row.profiles) 0 ≡ once old = ap (λ (o : Option Profile). option_map_or once o 0) found-again in
          omega (arith, puts.length (kind_in row.name) new row.profiles are-profiles new-kind, counted)

      pub profiles-replaced : profile_count (at_class class (with_profile new) rows.classes) ≡ profile_count rows.classes
      profiles-replaced =
          let once : Profile → ℕ = λ q. 1 in
          let counted : option_map_or once (profile_in class new.name rows.classes) 0 ≡ once old = ap (λ (o : Option Profile). option_map_or once o 0) profile-again in
          omega (arith, puts.profiles class row new rows.classes lawful.classes here new-kind_in, counted)

      pub entries-replaced : entry_count (at_class class (with_profile new) rows.classes) + entries_in old ≡ entry_count rows.classes + entries_in new
      entries-replaced =
          let own : option_map_or entries_in (profile_in class new.name rows.classes) 0 ≡ entries_in old = ap (λ (o : Option Profile). option_map_or entries_in o 0) profile-again in
          omega (arith, puts.entries class row new rows.classes lawful.classes here new-kind_in, own)

  -- a new profile without entries leaves the entries as many
  pub entries-put : (rows : Rows) (class : List ℕ) (profile : Profile) → AreLawful rows → profile.name.kind ≡ kind_in class → entries_in profile ≡ 0 → entry_count (at_class class (with_profile profile) rows.classes) ≤ most_entries_in_all
  entries-put rows class profile lawful kind none = by (class_of class rows) refl
    where
      by : (o : Option ClassRow) → class_of class rows ≡ o → entry_count (at_class class (with_profile profile) rows.classes) ≤ most_entries_in_all
      by None absent = omega (arith, lawful.few_entries, ap entry_count (at_class-absent class (with_profile profile) rows.classes absent))
      by (Some row) here = omega (arith, lawful.few_entries, none, puts.entries class row profile rows.classes lawful.classes here kind)

  -- where the entries get no more than they were
  pub entries-changed : (rows : Rows) (class : List ℕ) (name : Spelled) (change : Profile → Profile) → AreLawful rows → ((p : Profile) → (change p).name ≡ p.name) → ((p : Profile) → entries_in (change p) ≤ entries_in p)
      → entry_count (profile_changed class name change rows).classes ≤ most_entries_in_all
  entries-changed rows class name change lawful keeps entries = by (profile_of class name rows) refl
    where
      by : (o : Option Profile) → profile_of class name rows ≡ o → entry_count (option_map_or (λ old. profile_put class (change old) rows) o rows).classes ≤ most_entries_in_all
      by None none = lawful.few_entries
      by (Some old) found =
          let there = found-profile class name rows old found in
          omega (arith, lawful.few_entries, entries-replaced rows lawful class name there.0 there.1 old (change old) there.2 (keeps old), entries old)

  pub profile-changed-lawful : (rows : Rows) (class : List ℕ) (name : Spelled) (change : Profile → Profile) (options : Options) → AreLawful rows → ((p : Profile) → (change p).name ≡ p.name)
      → ((old : Profile) → profile_of class name rows ≡ Some old → IsProfile rows class old → IsProfile (record rows { options = options }) class (change old))
      → entry_count (profile_changed class name change rows).classes ≤ most_entries_in_all
      → AllByRecursion (IsClass (record rows { options = options })) rows.classes → Extends rows.options options → AreCategories options
      → (bytes_eq class cdt ≡ true → (p : Profile) → traits_of (change p).members ≡ traits_of p.members)
      → AreLawful (record (profile_changed class name change rows) { options = options })
  profile-changed-lawful rows class name change options lawful keeps is few_entries each extends categories traits = by (profile_of class name rows) refl few_entries
    where
      by : (o : Option Profile) → profile_of class name rows ≡ o → entry_count (option_map_or (λ old. profile_put class (change old) rows) o rows).classes ≤ most_entries_in_all
          → AreLawful (record (option_map_or (λ old. profile_put class (change old) rows) o rows) { options = options })
      by None none few = classes-changed rows rows.classes options lawful refl refl lawful.classes.lawful each lawful.few_profiles few extends categories
      by (Some old) found few =
          let there = found-profile class name rows old found in
          let one_row : (row : ClassRow) → class_of class rows ≡ Some row → find (is_profile name) row.profiles ≡ Some old = λ row here.
          let it : row ≡ there.0 = (let a = here in let b = there.1 in cc) in
          ap (λ (r : ClassRow). find (is_profile name) r.profiles) it ∙ there.2 in
          profile-put-lawful rows class (change old) options lawful
          (new-pattern rows lawful class name there.0 there.1 old (change old) there.2 (keeps old))
          (new-kind rows lawful class name there.0 there.1 old (change old) there.2 (keeps old) ∙ ap kind_in (same_class class there.0 rows.classes there.1))
          (λ row here. is old found (subst (λ (n : List ℕ). IsProfile rows n old) (same_class class row rows.classes here)
          (all-found (IsProfile rows row.name) (is_profile name) row.profiles old (is-class rows lawful class name row here).profiles (one_row row here))))
          (λ row here. omega (arith, (are-profiles rows lawful class name row here).few, length-replaced rows lawful class name row here old (change old) (one_row row here) (keeps old)))
          (omega (arith, lawful.few_profiles, profiles-replaced rows lawful class name there.0 there.1 old (change old) there.2 (keeps old)))
          few each extends categories
          (said-replaced rows (record rows { classes = at_class class (with_profile (change old)) rows.classes; options = options }) class there.0 (change old) refl there.1
          (length-replaced rows lawful class name there.0 there.1 old (change old) there.2 (keeps old))
          (λ own other found. said-as (change old) other old (ap (λ (n : Spelled). n.text) (keeps old)) (traits own old)
          (let a = found in let b = found-again rows lawful class name there.0 there.1 old (change old) there.2 (keeps old) in cc)))

  -- the profile that was changed is found by its name
  pub changed-found : (rows : Rows) (class : List ℕ) (name : Spelled) (change : Profile → Profile) (old : Profile) → ((p : Profile) → (change p).name ≡ p.name) → profile_of class name rows ≡ Some old
      → profile_of class name (profile_changed class name change rows) ≡ Some (change old)
  changed-found rows class name change old keeps found =
      let there = found-profile class name rows old found in
      let text : name.text ≡ (change old).name.text = sym (same old.name.text name.text (find-passes (is_profile name) old there.0.profiles there.2)) ∙ sym (ap (λ (n : Spelled). n.text) (keeps old)) in
      ap (λ o. profile_of class name (option_map_or (λ p. profile_put class (change p) rows) o rows)) found
      ∙ ap (λ (t : List ℕ). option_and_then (λ (row : ClassRow). find (λ (p : Profile). bytes_eq p.name.text t) row.profiles) (class_of class (profile_put class (change old) rows))) text
      ∙ profile-put class (change old) there.0 rows.classes there.1

  -- a change of a profile leaves the options, so that it is lawful by itself
  options-changed : (rows : Rows) (class : List ℕ) (name : Spelled) (change : Profile → Profile) → rows.options ≡ (profile_changed class name change rows).options
  options-changed rows class name change = by (profile_of class name rows)
    where
      by : (o : Option Profile) → rows.options ≡ (option_map_or (λ old. profile_put class (change old) rows) o rows).options
      by None = refl
      by (Some old) = refl

  pub profile-changed-alone : (rows : Rows) (class : List ℕ) (name : Spelled) (change : Profile → Profile) → AreLawful rows → ((p : Profile) → (change p).name ≡ p.name)
      → ((old : Profile) → profile_of class name rows ≡ Some old → IsProfile rows class old → IsProfile rows class (change old))
      → entry_count (profile_changed class name change rows).classes ≤ most_entries_in_all
      → (bytes_eq class cdt ≡ true → (p : Profile) → traits_of (change p).members ≡ traits_of p.members)
      → AreLawful (profile_changed class name change rows)
  profile-changed-alone rows class name change lawful keeps is few_entries traits =
      subst (λ (options : Options). AreLawful (record (profile_changed class name change rows) { options = options })) (options-changed rows class name change)
      (profile-changed-lawful rows class name change rows.options lawful keeps is few_entries lawful.each_class (extends_itself rows.options) lawful.categories traits)
