-- RDEFINE, RALTER and RDELETE in class CDT leave lawful rows.
use Rattle.std.proofs.Common.{◌≡◌, ℕ, ◌+◌, ◌≤◌, Bool, true, false, cond, not, ◌&&◌, ◌||◌, List, [], ◌∷◌, ◌++◌, length, map, Option, None, Some, Result, Ok, Err, is_some, is_ok, bytes_eq, codes, refl, sym, ap, subst, ◌∙◌, true≢false, arith}
use Rattle.std.specs.Prelude.{◌==◌, find, sum_by, unwrap_or, nat_le, nat_lt, IfSome}
use Rattle.std.specs.List.{AllByRecursion, position_from, list_any, list_all}
use Rattle.std.specs.Option.{option_map_or}
use Rattle.std.specs.Result.{result_ok}
use Rattle.std.proofs.lemmas.Bool.Decides.{nat_tests}
use Rattle.std.proofs.lemmas.Bool.{or_parts, and_from}
use Rattle.access_levels.specs.Spelling.{id_of, is_id_byte, bad_byte, unless_bad}
use Rattle.access_levels.specs.declared.ids.IdFault.{IdFault}
use Rattle.access_levels.specs.declared.ids.IdFault.TheVariants as fault
use Rattle.access_levels.proofs.SpelledIds.{id_of-itself}
use Rattle.generic_names.specs.Spelled.{Spelled}
use Rattle.generic_names.specs.Covers.{is_generic}
use Rattle.generic_names.specs.Laws.{IsPattern, OneIsBefore, PassedOn}
use Rattle.generic_names.specs.declared.kind.NameKind.TheVariants.{General}
use Rattle.racf_profiles.specs.declared.users.User.{User}
use Rattle.racf_profiles.specs.declared.profiles.Profile.{Profile}
use Rattle.racf_profiles.specs.declared.class_rows.ClassRow.{ClassRow}
use Rattle.racf_profiles.specs.declared.rows.Rows.{Rows}
use Rattle.racf_profiles.specs.DynamicClasses.{cdt, is_fixed, facts_in}
use Rattle.racf_profiles.specs.Lookup.{is_class, class_of, profile_of}
use Rattle.racf_profiles.specs.Names.{is_class_word}
use Rattle.racf_profiles.specs.Counts.{profile_count, entry_count, entries_in}
use Rattle.racf_profiles.specs.Edits.{put_profile, at_class, with_profile, added_class}
use Rattle.racf_profiles.specs.LawfulUsers.{IsUser}
use Rattle.racf_profiles.specs.LawfulProfiles.{AreProfiles, AreClassNames, AreDynamic, AreMembers, IsProfile, IsClass, kind_in, is_member_of, names_of}
use Rattle.racf_profiles.specs.Lawful.{AreLawful}
use Rattle.racf_profiles.proofs.EditLaws.{at_class-absent}
use Rattle.racf_profiles.proofs.OrderedProfiles.{all-put_profile}
use Rattle.racf_profiles.proofs.States.{at_class-found, find-passes, same_class}
use Rattle.racf_profiles.proofs.Found.{find-hit}
use Rattle.group_tree.proofs.Rows.{same, itself}
use Rattle.command_fields.specs.declared.issuer.Issuer.{Issuer}
use Rattle.command_fields.specs.declared.class_fields.DefineClass.{DefineClass}
use Rattle.command_fields.specs.declared.class_fields.AlterClass.{AlterClass}
use Rattle.command_fields.specs.declared.fields.CommandFields.TheVariants as command
use Rattle.command_fields.specs.Classes.{is_longest}
use Rattle.command_rules.specs.ProfileEffects.{named_class, traits_given, new_class_profile, altered_class_profile, class_added, profile_put, failures_from_read}
use Rattle.command_rules.specs.Effects.{step}
use Rattle.command_rules.specs.declared.conflict.Limit.TheVariants.{Classes}
use Rattle.command_rules.specs.Conflicts.{first_met}
use Rattle.command_rules.specs.ProfileConflicts.{class_taken, classes_full, dynamic_among, profiles_in, define_class_conflicts, define_class_requirements, define_class_limits}
use Rattle.command_rules.proofs.Unmet.{AreUnmet, each_unmet, unmet, within}
use Rattle.lawful_commands.proofs.RowLists.{all-each, both-each, all-push, all-map, all-unmap, none-found, any-push, all-passes, passes-all, distinct-one}
use Rattle.lawful_commands.proofs.Kept.{HasClasses, AllowsAsBefore, extends_itself, defined-none, user-kept, class-kept}
use Rattle.lawful_commands.proofs.ClassTraits.{Said, said_by, said_in, traits_said, is_said, are_defined, are_there, facts-same, dynamic-from, defined-of, there-of, found-named, class-other, traits-put, is_said-put, is_said-itself}
use Rattle.lawful_commands.proofs.ClassLists.{find-push, map-push, sum-push, any-last, fixed-there, names-added}
use Rattle.lawful_commands.proofs.ProfileNames.{resource-class, some-there}
use Rattle.lawful_commands.proofs.ProfileRows.{PutsAreCounted, all-at_class, names-at_class, put-profiles, entries-put, entries-changed, profile-changed-alone}
use Rattle.lawful_commands.proofs.ProfileCommands.{no-entries, few-in_class, few-profiles}

-- ---- names with an ID's spelling
pub spelled-itself : (text : List ℕ) → is_ok (id_of text) ≡ true → id_of text ≡ Ok text
spelled-itself text spelled = by (id_of text) refl spelled
  where
    by : (r : Result (List ℕ) IdFault) → id_of text ≡ r → is_ok r ≡ true → r ≡ Ok text
    by (Ok id) e s = ap (λ (t : List ℕ). let ok : Result (List ℕ) IdFault = Ok t in ok) (sym (id_of-itself text id e))
    by (Err why) e s = absurd (true≢false (sym s))

plain-byte : (b : ℕ) → is_id_byte b ≡ true → ((b == 37) || (b == 42)) ≡ false
plain-byte b h = by (b == 37) refl (b == 42) refl
  where
    other : (c : ℕ) → is_id_byte c ≡ false → (b == c) ≡ true → true ≡ false
    other c unlike e =
        let is : b ≡ c = grind (arith, nat_tests) in
        sym h ∙ ap is_id_byte is ∙ unlike

    by : (x : Bool) → (b == 37) ≡ x → (y : Bool) → (b == 42) ≡ y → (x || y) ≡ false
    by true e y f = absurd (true≢false (other 37 refl e))
    by false e true f = absurd (true≢false (other 42 refl f))
    by false e false f = refl

plain-bytes : (place : ℕ) (text : List ℕ) → position_from (λ byte. not (is_id_byte byte)) place text ≡ None → list_any (λ b. (b == 37) || (b == 42)) text ≡ false
plain-bytes place [] h = refl
plain-bytes place (b ∷ bs) h = by (is_id_byte b) refl h (plain-bytes (place + 1) bs)
  where
    by : (t : Bool) → is_id_byte b ≡ t → cond (not t) (Some place) (position_from (λ byte. not (is_id_byte byte)) (place + 1) bs) ≡ None
        → (position_from (λ byte. not (is_id_byte byte)) (place + 1) bs ≡ None → list_any (λ c. (c == 37) || (c == 42)) bs ≡ false) → (((b == 37) || (b == 42)) || list_any (λ c. (c == 37) || (c == 42)) bs) ≡ false
    by true e k rest = ap (λ x. x || list_any (λ c. (c == 37) || (c == 42)) bs) (plain-byte b e) ∙ rest k
    by false e k rest = cc

-- An ID has no generic character.
pub id-plain : (name : Spelled) → is_ok (id_of name.text) ≡ true → is_generic name ≡ false
id-plain name spelled = by (length name.text == 0) (nat_lt 8 (length name.text)) (bad_byte name.text) refl spelled
  where
    by : (e l : Bool) (bad : Option ℕ) → bad_byte name.text ≡ bad → (let read : Result (List ℕ) IdFault = cond e (Err fault.Empty) (cond l (Err fault.TooLong) (unless_bad bad name.text)) in is_ok read) ≡ true → is_generic name ≡ false
    by true l bad b s = absurd (true≢false (sym s))
    by false true bad b s = absurd (true≢false (sym s))
    by false false (Some place) b s = absurd (true≢false (sym s))
    by false false None b s = plain-bytes 1 name.text b

module _ (one : OneIsBefore) (puts : PutsAreCounted) (passed_on : PassedOn) where
  -- ---- RALTER
  pub alter_class-lawful : (issuer : Issuer) (c : AlterClass) (rows : Rows) → AreLawful rows → AreLawful (step issuer (command.AlterClass c) rows)
  alter_class-lawful issuer c rows lawful =
      profile-changed-alone one puts passed_on rows cdt c.profile (altered_class_profile c) lawful (λ p. refl)
      (λ old found is. record {
        name = is.name;
        entries = record { distinct = is.entries.distinct; few = is.entries.few; distinct_when = is.entries.distinct_when; few_when = is.entries.few_when };
        audit = is.audit;
        members = record { distinct = is.members.distinct; fitting = is.members.fitting; few = is.members.few; traits = is.members.traits };
        categories = is.categories;
      })
      (entries-changed one puts passed_on rows cdt c.profile (altered_class_profile c) lawful (λ p. refl) (λ p. omega arith))
      (λ own p. refl)

  -- ---- RDEFINE
  module _ (issuer : Issuer) (c : DefineClass) (rows : Rows) (lawful : AreLawful rows) (pattern : IsPattern c.profile) (kind : c.profile.kind ≡ General) (spelled : is_ok (id_of c.profile.text) ≡ true)
      (longest : IfSome c.maxlength (λ n. is_longest n ≡ true)) (met : first_met (define_class_conflicts issuer c rows) ≡ None) where
    abbrev text : List ℕ
    text = c.profile.text

    abbrev profile : Profile
    profile = new_class_profile issuer c

    abbrev changed : List ClassRow
    changed = at_class cdt (with_profile profile) rows.classes

    abbrev new : Rows
    new = record rows { classes = changed ++ added_class text ∷ [] }

    tests : AreUnmet (define_class_conflicts issuer c rows)
    tests = each_unmet (define_class_conflicts issuer c rows) met

    stepped : step issuer (command.DefineClass c) rows ≡ new
    stepped = ap (λ r. class_added (result_ok r) (profile_put cdt profile rows)) (spelled-itself text spelled)

    -- the class isn't there, and CDT is
    absent : class_of text rows ≡ None
    unfolding define_class_requirements define_class_limits tests class_taken
    absent =
        let taken : option_map_or (is_class_word rows) (named_class c.profile) false ≡ false =
        (or_parts (is_some (profile_of cdt c.profile rows)) (option_map_or (is_class_word rows) (named_class c.profile) false)
        (unmet (is_some (profile_of cdt c.profile rows) || option_map_or (is_class_word rows) (named_class c.profile) false) _ tests.1.1.0)).1 in
        let word : is_class_word rows text ≡ false = sym (ap (λ r. option_map_or (is_class_word rows) (result_ok r) false) (spelled-itself text spelled)) ∙ taken in
        none (class_of text rows) (or_parts (bytes_eq text (codes "USER")) (is_some (class_of text rows)) word).1
      where
        none : (o : Option ClassRow) → is_some o ≡ false → o ≡ None
        none None h = refl
        none (Some row) h = absurd (true≢false h)

    cdt-there : (row : ClassRow) × (class_of cdt rows ≡ Some row)
    unfolding define_class_requirements define_class_limits tests
    cdt-there = some-there (class_of cdt rows) (resource-class rows cdt c.profile tests.1.0).1

    apart-cdt : bytes_eq cdt text ≡ false
    apart-cdt = by (bytes_eq cdt text) refl
      where
        by : (b : Bool) → bytes_eq cdt text ≡ b → b ≡ false
        by false e = refl
        by true e = let some : class_of text rows ≡ Some cdt-there.0 = ap (λ n. class_of n rows) (sym (same cdt text e)) ∙ cdt-there.1 in let no = absent in cc

    apart : AllByRecursion (λ (class : ClassRow). is_class text class ≡ false) rows.classes
    apart = none-found (is_class text) rows.classes absent

    none-any : list_any (λ other. bytes_eq other text) (names_of rows.classes) ≡ false
    none-any = sym (found-named text rows.classes) ∙ ap is_some absent

    dynamic : is_fixed text ≡ false
    dynamic = by (is_fixed text) refl
      where
        by : (b : Bool) → is_fixed text ≡ b → b ≡ false
        by false e = refl
        by true e = sym (sym none-any ∙ fixed-there text (names_of rows.classes) lawful.classes.names e)

    -- ---- the classes behind it
    same-names : names_of changed ≡ names_of rows.classes
    same-names = names-at_class cdt (with_profile profile) (λ row. refl) rows.classes

    new-names : names_of new.classes ≡ names_of rows.classes ++ text ∷ []
    new-names = map-push (λ (class : ClassRow). class.name) (added_class text) changed ∙ ap (λ names. names ++ text ∷ []) same-names

    has : HasClasses rows new
    has name there =
        found-named name new.classes ∙ ap (list_any (λ other. bytes_eq other name)) new-names
        ∙ any-push (λ other. bytes_eq other name) (names_of rows.classes) text (sym (found-named name rows.classes) ∙ there)

    cdt-found : class_of cdt new ≡ Some (with_profile profile cdt-there.0)
    cdt-found = find-push (is_class cdt) (with_profile profile cdt-there.0) (added_class text) changed (at_class-found cdt (with_profile profile) cdt-there.0 rows.classes (λ row. refl) cdt-there.1)

    said-new : said_in new ≡ map said_by (put_profile profile cdt-there.0.profiles)
    said-new = ap (λ (o : Option ClassRow). map said_by (option_map_or (λ (row : ClassRow). row.profiles) o [])) cdt-found

    said-old : said_in rows ≡ map said_by cdt-there.0.profiles
    said-old = ap (λ (o : Option ClassRow). map said_by (option_map_or (λ (row : ClassRow). row.profiles) o [])) cdt-there.1

    facts : (class : ClassRow) → is_class text class ≡ false → AllowsAsBefore rows new class.name
    facts class other =
        facts-same rows new class.name
        (ap (traits_said class.name) said-new ∙ traits-put class.name profile (turned other) cdt-there.0.profiles ∙ sym (ap (traits_said class.name) said-old))
      where
        turned : bytes_eq class.name text ≡ false → bytes_eq text class.name ≡ false
        turned e = by (bytes_eq text class.name) refl
          where
            by : (b : Bool) → bytes_eq text class.name ≡ b → b ≡ false
            by false f = refl
            by true f = sym (sym e ∙ ap (λ n. bytes_eq n text) (sym (same text class.name f)) ∙ itself text)

    -- ---- the profile in CDT
    traits-fitting : (o : Option ℕ) → IfSome o (λ n. is_longest n ≡ true) → (nat_le 1 (unwrap_or o 246) && nat_le (unwrap_or o 246) 246) ≡ true
    traits-fitting None h = refl
    traits-fitting (Some n) h = h

    profile-lawful : IsProfile new cdt profile
    profile-lawful = record {
      name = ap (λ b. b && (true && (not (is_generic c.profile) || false))) spelled ∙ ap (λ b. not b || false) (id-plain c.profile spelled);
      entries = no-entries profile refl refl;
      audit = refl;
      members = record {
        distinct = distinct-one bytes_eq [];
        fitting = and-last (nat_le 1 (unwrap_or c.maxlength 246) && nat_le (unwrap_or c.maxlength 246) 246) (traits-fitting c.maxlength longest);
        few = omega arith;
        traits = refl;
      };
      categories = defined-none new.options;
    }
      where
        and-last : (b : Bool) → b ≡ true → (b && true) ≡ true
        and-last b h = ap (λ x. x && true) h

    -- ---- each class
    abbrev IsRow : ClassRow → Type 0
    IsRow row = AreProfiles (kind_in row.name) row.profiles

    few_in_class : length (put_profile profile cdt-there.0.profiles) ≤ 50000
    unfolding define_class_requirements define_class_limits tests
    few_in_class =
        let most : length (profiles_in cdt (step issuer (command.DefineClass c) rows)) ≤ 50000 = few-in_class issuer (command.DefineClass c) cdt rows tests.1.1.1.0 in
        subst (λ (ps : List Profile). length ps ≤ 50000)
        (ap (profiles_in cdt) stepped ∙ ap (λ (o : Option ClassRow). option_map_or (λ (row : ClassRow). row.profiles) o []) cdt-found) most

    each-row : AllByRecursion IsRow new.classes
    each-row =
        all-push IsRow changed (added_class text)
        (all-at_class IsRow cdt (with_profile profile) rows.classes
        (λ row found are. put-profiles one puts passed_on (kind_in row.name) profile row.profiles pattern (kind ∙ ap kind_in (sym (same_class cdt row rows.classes found)))
        (subst (λ (r : ClassRow). length (put_profile profile r.profiles) ≤ 50000) (let a = found in let b = cdt-there.1 in let it : cdt-there.0 ≡ row = cc in it) few_in_class) are) lawful.classes.lawful)
        (record { named = tt; ordered = refl; few = omega arith })

    not-dataset : bytes_eq text (codes "DATASET") ≡ false
    not-dataset = by (bytes_eq text (codes "DATASET")) refl
      where
        by : (b : Bool) → bytes_eq text (codes "DATASET") ≡ b → b ≡ false
        by false e = refl
        by true e = sym (sym dynamic ∙ ap is_fixed (same text (codes "DATASET") e))

    each-class : AllByRecursion (IsClass new) new.classes
    each-class =
        all-push (IsClass new) changed (added_class text)
        (all-at_class (IsClass new) cdt (with_profile profile) rows.classes
        (λ row found own. record {
          active = own.active;
          listed = own.listed;
          profiles = all-put_profile (IsProfile new row.name) profile row.profiles (subst (λ n. IsProfile new n profile) (sym (same_class cdt row rows.classes found)) profile-lawful) own.profiles;
        })
        (both-each (λ (class : ClassRow). is_class text class ≡ false) (IsClass rows) (IsClass new)
        (λ class other is. class-kept rows new has (extends_itself rows.options) class (facts class other) is) rows.classes apart lawful.each_class))
        (record { active = ap (λ b. not b || false) not-dataset; listed = refl; profiles = tt })

    -- ---- classes and profiles of CDT belong together
    names-apart : AllByRecursion (λ name. bytes_eq name text ≡ false) (names_of rows.classes)
    names-apart = all-map (λ (class : ClassRow). class.name) (λ name. bytes_eq name text ≡ false) rows.classes apart

    other-way : (name : List ℕ) → bytes_eq name text ≡ false → bytes_eq text name ≡ false
    other-way name e = by (bytes_eq text name) refl
      where
        by : (b : Bool) → bytes_eq text name ≡ b → b ≡ false
        by false f = refl
        by true f = sym (sym e ∙ ap (λ n. bytes_eq n text) (sym (same text name f)) ∙ itself text)

    still-defined : (name : List ℕ) → bytes_eq name text ≡ false → (is_fixed name || is_said name (said_in rows)) ≡ true → (is_fixed name || is_said name (said_in new)) ≡ true
    still-defined name other h =
        ap (λ b. is_fixed name || b) (ap (is_said name) said-new ∙ is_said-put name profile (other-way name other) cdt-there.0.profiles ∙ sym (ap (is_said name) said-old)) ∙ h

    or-last : (a b : Bool) → b ≡ true → (a || b) ≡ true
    or-last true b h = refl
    or-last false b h = h

    defined : are_defined (names_of new.classes) (said_in new) ≡ true
    defined =
        ap (λ names. are_defined names (said_in new)) new-names
        ∙ passes-all (λ name. is_fixed name || is_said name (said_in new)) (names_of rows.classes ++ text ∷ [])
        (all-push (λ name. (is_fixed name || is_said name (said_in new)) ≡ true) (names_of rows.classes) text
        (both-each (λ name. bytes_eq name text ≡ false) (λ name. (is_fixed name || is_said name (said_in rows)) ≡ true) (λ name. (is_fixed name || is_said name (said_in new)) ≡ true) still-defined (names_of rows.classes) names-apart
        (all-passes (λ name. is_fixed name || is_said name (said_in rows)) (names_of rows.classes) (defined-of rows lawful.dynamic)))
        (or-last (is_fixed text) (is_said text (said_in new)) (ap (is_said text) said-new ∙ is_said-itself profile cdt-there.0.profiles)))

    abbrev is_there : List (List ℕ) → Said → Bool
    is_there names said = not (is_fixed said.0) && list_any (λ other. bytes_eq other said.0) names

    still-there : (said : Said) → is_there (names_of rows.classes) said ≡ true → is_there (names_of rows.classes ++ text ∷ []) said ≡ true
    still-there said h = by (not (is_fixed said.0)) h
      where
        by : (b : Bool) → (b && list_any (λ other. bytes_eq other said.0) (names_of rows.classes)) ≡ true → (b && list_any (λ other. bytes_eq other said.0) (names_of rows.classes ++ text ∷ [])) ≡ true
        by true k = any-push (λ other. bytes_eq other said.0) (names_of rows.classes) text k
        by false k = k

    there : are_there (names_of new.classes) (said_in new) ≡ true
    there =
        ap (λ names. are_there names (said_in new)) new-names ∙ ap (are_there (names_of rows.classes ++ text ∷ [])) said-new
        ∙ passes-all (is_there (names_of rows.classes ++ text ∷ [])) (map said_by (put_profile profile cdt-there.0.profiles))
        (all-map said_by (λ said. is_there (names_of rows.classes ++ text ∷ []) said ≡ true) (put_profile profile cdt-there.0.profiles)
        (all-put_profile (λ (p : Profile). is_there (names_of rows.classes ++ text ∷ []) (said_by p) ≡ true) profile cdt-there.0.profiles
        (and_from (not (is_fixed text)) (list_any (λ other. bytes_eq other text) (names_of rows.classes ++ text ∷ [])) (ap not dynamic) (any-last text (names_of rows.classes)))
        (all-unmap said_by (λ said. is_there (names_of rows.classes ++ text ∷ []) said ≡ true) cdt-there.0.profiles
        (all-each (λ said. is_there (names_of rows.classes) said ≡ true) (λ said. is_there (names_of rows.classes ++ text ∷ []) said ≡ true) still-there (map said_by cdt-there.0.profiles)
        (all-passes (is_there (names_of rows.classes)) (map said_by cdt-there.0.profiles) (sym (ap (are_there (names_of rows.classes)) said-old) ∙ there-of rows lawful.dynamic))))))

    -- ---- limits
    few-classes : length (names_of new.classes) ≤ 47
    unfolding define_class_requirements define_class_limits tests classes_full
    few-classes =
        let most : dynamic_among (length (step issuer (command.DefineClass c) rows).classes) ≤ 32 = within Classes 32 _ tests.1.1.1.1.1.0 in
        let now : dynamic_among (length new.classes) ≤ 32 = subst (λ (r : Rows). dynamic_among (length r.classes) ≤ 32) stepped most in
        omega (arith, now, length-names new.classes)
      where
        length-names : (classes : List ClassRow) → length (names_of classes) ≡ length classes
        length-names [] = refl
        length-names (class ∷ classes) = omega (arith, length-names classes)

    few-in_all : profile_count new.classes ≤ 100000
    unfolding define_class_requirements define_class_limits tests
    few-in_all = subst (λ (r : Rows). profile_count r.classes ≤ 100000) stepped (few-profiles issuer (command.DefineClass c) rows tests.1.1.1.1.0)

    few-entries : entry_count new.classes ≤ 1000000
    few-entries =
        let counted : entry_count new.classes ≡ entry_count changed + 0 = sum-push (λ (class : ClassRow). sum_by entries_in class.profiles) (added_class text) changed in
        omega (arith, counted, entries-put one puts passed_on rows cdt profile lawful kind refl)

    new-lawful : AreLawful new
    new-lawful = record {
      groups = lawful.groups;
      group_names = lawful.group_names;
      users = lawful.users;
      each_user = all-each (IsUser rows) (IsUser new) (λ user is. user-kept rows new has (extends_itself rows.options) user is.no_group is.connections.there is) rows.users lawful.each_user;
      special_user = lawful.special_user;
      few_connections = lawful.few_connections;
      classes = record {
        names = names-added changed (added_class text) (subst AreClassNames (sym same-names) lawful.classes.names) changed-apart few-classes;
        lawful = each-row;
      };
      each_class = each-class;
      dynamic = dynamic-from new defined there;
      few_profiles = few-in_all;
      few_entries = few-entries;
      categories = lawful.categories;
    }
      where
        changed-apart : AllByRecursion (λ (class : ClassRow). bytes_eq class.name text ≡ false) changed
        changed-apart = all-at_class (λ (class : ClassRow). bytes_eq class.name text ≡ false) cdt (with_profile profile) rows.classes (λ row found own. own) apart

    pub define_class-lawful : AreLawful (step issuer (command.DefineClass c) rows)
    define_class-lawful = subst AreLawful (sym stepped) new-lawful
