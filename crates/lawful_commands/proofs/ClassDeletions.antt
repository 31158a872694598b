-- RDELETE leaves lawful rows, in class CDT too, where the class goes with its profile.
use Rattle.std.proofs.Common.{◌≡◌, ℕ, ◌+◌, ◌≤◌, Bool, true, false, cond, not, ◌&&◌, ◌||◌, List, [], ◌∷◌, length, map, Option, None, Some, option_map, is_some, is_ok, bytes_eq, codes, refl, sym, ap, subst, ◌∙◌, true≢false, arith}
use Rattle.std.specs.Prelude.{find, filter, sum_by, slice_get}
use Rattle.std.specs.List.{AllByRecursion, IsDistinct, list_any, list_all}
use Rattle.std.specs.Option.{option_map_or, option_and_then, option_or}
use Rattle.std.specs.Result.{result_ok}
use Rattle.std.proofs.lemmas.Bool.{and_parts, and_from, not-false, not-true}
use Rattle.std.proofs.lemmas.List.Sums.{sum_by-cons}
use Rattle.access_levels.specs.Spelling.{id_of}
use Rattle.generic_names.specs.Spelled.{Spelled}
use Rattle.generic_names.specs.Covers.{is_generic}
use Rattle.generic_names.specs.Laws.{NotBoth, OneIsBefore, PassedOn}
use Rattle.generic_names.specs.declared.kind.NameKind.{NameKind}
use Rattle.generic_names.specs.declared.kind.NameKind.TheVariants.{General}
use Rattle.racf_profiles.specs.declared.users.User.{User}
use Rattle.racf_profiles.specs.declared.profiles.Profile.{Profile}
use Rattle.racf_profiles.specs.declared.class_rows.ClassRow.{ClassRow}
use Rattle.racf_profiles.specs.declared.rows.Rows.{Rows}
use Rattle.racf_profiles.specs.declared.fixed_classes.FixedClass.{FixedClass}
use Rattle.racf_profiles.specs.declared.fixed_classes.FixedClass.TheVariants.{Dataset, Secdata, Seclabel, Global, Cdt}
use Rattle.racf_profiles.specs.declared.fixed_classes.NameForm.{NameForm}
use Rattle.racf_profiles.specs.declared.fixed_classes.NameForm.TheVariants as names
use Rattle.racf_profiles.specs.declared.fixed_classes.ClassFacts.{ClassFacts}
use Rattle.racf_profiles.specs.declared.profiles.ClassTraits.{ClassTraits}
use Rattle.racf_profiles.specs.ClassTable.{class_name, fixed_class, facts_of_class}
use Rattle.racf_profiles.specs.DynamicClasses.{cdt, general, is_fixed, is_short, facts_in, facts_of_traits, traits_in}
use Rattle.racf_profiles.specs.Lookup.{is_class, is_profile, class_of, profile_of}
use Rattle.racf_profiles.specs.Names.{connections, connected_to, is_special_user}
use Rattle.racf_profiles.specs.Counts.{profile_count, entry_count, entries_in}
use Rattle.racf_profiles.specs.Edits.{drop_row, at_class, without_profile, without_class, is_in_order, AreNamed}
use Rattle.racf_profiles.specs.LawfulUsers.{AreUsers, IsUser, is_clauth_class}
use Rattle.racf_profiles.specs.LawfulProfiles.{AreProfiles, AreClassNames, IsProfile, IsClass, is_named_by, is_profile_name, kind_in, names_of}
use Rattle.racf_profiles.specs.Lawful.{AreLawful}
use Rattle.racf_profiles.proofs.EditLaws.{all-drop_row, length-drop_row, without_class-others}
use Rattle.racf_profiles.proofs.OrderedProfiles.{same_spelled, ordered-tail, rest-behind}
use Rattle.racf_profiles.proofs.States.{at_class-found, find-passes, same_class}
use Rattle.racf_profiles.proofs.Found.{find-hit, find-miss, found_passes, all-found}
use Rattle.class_profiles.proofs.Order.{none-behind}
use Rattle.row_tables.proofs.RowLaws.{sum-drop_row}
use Rattle.group_tree.proofs.Rows.{same, itself}
use Rattle.command_fields.specs.declared.profile_fields.RDelete.{RDelete}
use Rattle.command_rules.specs.ProfileEffects.{dataset, named_class, without_clauth, deleted_class, profile_dropped, class_dropped, after_r_delete}
use Rattle.command_rules.specs.UserEffects.{without_classes}
use Rattle.command_rules.specs.Conflicts.{first_met}
use Rattle.command_rules.specs.ProfileConflicts.{no_profile, no_resource_profile, profiles_in, first_profile, uses_class, class_in_use, r_delete_conflicts}
use Rattle.command_rules.proofs.Unmet.{AreUnmet, each_unmet, unmet}
use Rattle.lawful_commands.proofs.RowLists.{all-each, both-each, all-filter, all-map, all-unmap, none-found, all-passes, passes-all}
use Rattle.lawful_commands.proofs.UserParts.{distinct-without_classes}
use Rattle.lawful_commands.proofs.Kept.{AllowsAsBefore, extends_itself}
use Rattle.lawful_commands.proofs.ClassTraits.{Said, said_by, said_in, traits_said, is_said, are_defined, are_there, facts-same, dynamic-from, defined-of, there-of, found-named, traits-drop, is_said-drop}
use Rattle.lawful_commands.proofs.ClassLists.{names-without, names-dropped, sum-filter-le}
use Rattle.lawful_commands.proofs.ProfileNames.{fixed-named, resource-class, some-there}
use Rattle.lawful_commands.proofs.ProfileRows.{PutsAreCounted, all-at_class, names-at_class, sum-at_class-le, drop-profiles, profile-dropped-lawful}
use Rattle.lawful_commands.proofs.OptionCommands.{unmapped}
use Rattle.lawful_commands.proofs.ClassCommands.{spelled-itself}

-- ---- lists
all-kept : {X : Type 0} (P : X → Type 0) (stays : X → Bool) (xs : List X) → AllByRecursion (λ x. stays x ≡ true → P x) xs → AllByRecursion P (filter stays xs)
all-kept P stays [] h = tt
all-kept P stays (x ∷ xs) h = by (stays x) refl (all-kept P stays xs h.1)
  where
    by : (b : Bool) → stays x ≡ b → AllByRecursion P (filter stays xs) → AllByRecursion P (cond b (x ∷ filter stays xs) (filter stays xs))
    by true e rest = (h.0 e, rest)
    by false e rest = rest

map-map : {X K : Type 0} (f : X → X) (key : X → K) → ((x : X) → key (f x) ≡ key x) → (xs : List X) → map key (map f xs) ≡ map key xs
map-map f key keeps [] = refl
map-map f key keeps (x ∷ xs) = ap (λ k. k ∷ map key (map f xs)) (keeps x) ∙ ap (λ ks. key x ∷ ks) (map-map f key keeps xs)

length-same : {X : Type 0} (f : X → X) (xs : List X) → length (map f xs) ≡ length xs
length-same f [] = refl
length-same f (x ∷ xs) = omega (arith, length-same f xs)

any-map : {X : Type 0} (f : X → X) (p : X → Bool) → ((x : X) → p (f x) ≡ p x) → (xs : List X) → list_any p (map f xs) ≡ list_any p xs
any-map f p keeps [] = refl
any-map f p keeps (x ∷ xs) = ap (λ b. b || list_any p (map f xs)) (keeps x) ∙ ap (λ b. p x || b) (any-map f p keeps xs)

sum-map : {X : Type 0} (f : X → X) (weight : X → ℕ) → ((x : X) → weight (f x) ≡ weight x) → (xs : List X) → sum_by weight (map f xs) ≡ sum_by weight xs
sum-map f weight keeps [] = refl
sum-map f weight keeps (x ∷ xs) = sum_by-cons weight (f x) (map f xs) ∙ ap (λ n. n + sum_by weight (map f xs)) (keeps x) ∙ ap (λ n. weight x + n) (sum-map f weight keeps xs) ∙ sym (sum_by-cons weight x xs)

-- each class is found by its name, since no two have one
found-each : (classes : List ClassRow) → IsDistinct bytes_eq (names_of classes) → AllByRecursion (λ (class : ClassRow). find (is_class class.name) classes ≡ Some class) classes
unfolding IsDistinct
found-each [] d = tt
found-each (class ∷ classes) d = (
  find-hit (is_class class.name) class classes (itself class.name),
  both-each (λ (other : ClassRow). bytes_eq class.name other.name ≡ false) (λ (other : ClassRow). find (is_class other.name) classes ≡ Some other) (λ (other : ClassRow). find (is_class other.name) (class ∷ classes) ≡ Some other)
      (λ other apart found. find-miss (is_class other.name) class classes apart ∙ found) classes (all-unmap (λ (other : ClassRow). other.name) (λ name. bytes_eq class.name name ≡ false) classes d.0) (found-each classes d.1),
)

-- a name that isn't the one that goes is among those that stay
abbrev without : List ℕ → List (List ℕ) → List (List ℕ)
without gone all = filter (λ name. not (bytes_eq name gone)) all

any-without : (gone name : List ℕ) → bytes_eq gone name ≡ false → (all : List (List ℕ)) → list_any (λ other. bytes_eq other name) all ≡ true → list_any (λ other. bytes_eq other name) (without gone all) ≡ true
any-without gone name differ [] h = h
any-without gone name differ (other ∷ all) h = by (bytes_eq other gone) refl (bytes_eq other name) refl h (any-without gone name differ all)
  where
    by : (b : Bool) → bytes_eq other gone ≡ b → (d : Bool) → bytes_eq other name ≡ d → (d || list_any (λ o. bytes_eq o name) all) ≡ true → (list_any (λ o. bytes_eq o name) all ≡ true → list_any (λ o. bytes_eq o name) (without gone all) ≡ true)
        → list_any (λ o. bytes_eq o name) (cond (not b) (other ∷ without gone all) (without gone all)) ≡ true
    by true e true f k rest = absurd (true≢false (sym (ap (λ n. bytes_eq n name) (sym (same other gone e)) ∙ f) ∙ differ))
    by true e false f k rest = rest k
    by false e true f k rest = ap (λ b. b || list_any (λ o. bytes_eq o name) (without gone all)) f
    by false e false f k rest = ap (λ b. b || list_any (λ o. bytes_eq o name) (without gone all)) f ∙ rest k

-- a name that isn't one is the other way round neither
turned : (a b : List ℕ) → bytes_eq a b ≡ false → bytes_eq b a ≡ false
turned a b e = by (bytes_eq b a) refl
  where
    by : (d : Bool) → bytes_eq b a ≡ d → d ≡ false
    by false f = refl
    by true f = sym (sym e ∙ ap (λ n. bytes_eq n b) (sym (same b a f)) ∙ itself b)

-- whether names are those of classes
abbrev is_class_form : NameForm → Bool
is_class_form names.Class = true
is_class_form _ = false

none-else : {X : Type 0} (o p : Option X) → option_or o p ≡ None → (o ≡ None) × (p ≡ None)
none-else None p h = (refl, h)
none-else (Some x) p h = cc

module _ (one : OneIsBefore) (puts : PutsAreCounted) (passed_on : PassedOn) (not_both : NotBoth) where
  -- of a name no second profile is left
  none-left : (n : Spelled) (kind : NameKind) (profiles : List Profile) → n.kind ≡ kind → AreNamed kind profiles → is_in_order profiles ≡ true → AllByRecursion (λ (p : Profile). is_profile n p ≡ false) (drop_row (is_profile n) profiles)
  none-left n kind [] is named ordered = tt
  none-left n kind (profile ∷ profiles) is named ordered = by (is_profile n profile) refl (none-left n kind profiles is named.1 (ordered-tail profile profiles ordered))
    where
      by : (b : Bool) → is_profile n profile ≡ b → AllByRecursion (λ (p : Profile). is_profile n p ≡ false) (drop_row (is_profile n) profiles)
          → AllByRecursion (λ (p : Profile). is_profile n p ≡ false) (cond b profiles (profile ∷ drop_row (is_profile n) profiles))
      by true e rest =
          let own : profile.name ≡ n = same_spelled profile.name n (named.0.1 ∙ sym is) e in
          none-found (is_profile n) profiles (subst (λ (m : Spelled). find (is_profile m) profiles ≡ None) own
          (none-behind not_both profile.name kind profiles named.0.1 named.1 (rest-behind passed_on profile profiles ordered)))
      by false e rest = (e, rest)

  module _ (c : RDelete) (rows : Rows) (lawful : AreLawful rows) (own : bytes_eq c.class cdt ≡ true) (spelled : is_ok (id_of c.profile.text) ≡ true) (kind : c.profile.kind ≡ General) (met : first_met (r_delete_conflicts c rows) ≡ None) where
    abbrev text : List ℕ
    text = c.profile.text

    abbrev changed : List ClassRow
    changed = at_class cdt (without_profile c.profile) rows.classes

    abbrev new : Rows
    new = record rows { users = map (without_clauth text) rows.users; classes = without_class text changed }

    is-cdt : c.class ≡ cdt
    is-cdt = same c.class cdt own

    pub deleted : deleted_class c ≡ Some text
    deleted = ap (λ b. cond b (named_class c.profile) None) own ∙ ap result_ok (spelled-itself text spelled)

    stepped : after_r_delete c rows ≡ new
    stepped = ap (λ o. class_dropped o (profile_dropped c.class c.profile rows)) deleted ∙ ap (λ n. class_dropped (Some text) (profile_dropped n c.profile rows)) is-cdt

    tests : AreUnmet (r_delete_conflicts c rows)
    tests = each_unmet (r_delete_conflicts c rows) met

    cdt-there : (row : ClassRow) × (class_of cdt rows ≡ Some row)
    unfolding r_delete_conflicts tests
    cdt-there = some-there (class_of cdt rows) (ap (λ n. is_some (class_of n rows)) (sym is-cdt) ∙ (resource-class rows c.class c.profile tests.1.0).1)

    profile-there : (profile : Profile) × (profile_of cdt c.profile rows ≡ Some profile)
    unfolding r_delete_conflicts tests no_resource_profile no_profile
    profile-there =
        let h : no_resource_profile cdt c.profile rows ≡ None = ap (λ n. no_resource_profile n c.profile rows) (sym is-cdt) ∙ tests.0 in
        let none : (is_some (class_of cdt rows) && not (is_some (profile_of cdt c.profile rows))) ≡ false = unmet (is_some (class_of cdt rows) && not (is_some (profile_of cdt c.profile rows))) _ h in
        some-there (profile_of cdt c.profile rows) (not-false (is_some (profile_of cdt c.profile rows)) (sym (ap (λ o. is_some o && not (is_some (profile_of cdt c.profile rows))) cdt-there.1) ∙ none))

    found : find (is_profile c.profile) cdt-there.0.profiles ≡ Some profile-there.0
    found = sym (ap (λ (o : Option ClassRow). option_and_then (λ (row : ClassRow). find (is_profile c.profile) row.profiles) o) cdt-there.1) ∙ profile-there.1

    no-global : profile_of (codes "GLOBAL") (general text) rows ≡ None
    unfolding r_delete_conflicts tests class_in_use
    no-global =
        let none : option_and_then (uses_class rows) (deleted_class c) ≡ None = unmapped _ (option_and_then (uses_class rows) (deleted_class c)) tests.1.1.0 in
        (none-else _ (profile_of (codes "GLOBAL") (general text) rows) (sym (ap (option_and_then (uses_class rows)) deleted) ∙ none)).1

    -- and it has no profile
    pub no-profiles : profiles_in text rows ≡ []
    unfolding r_delete_conflicts tests class_in_use
    no-profiles =
        let none : option_and_then (uses_class rows) (deleted_class c) ≡ None = unmapped _ (option_and_then (uses_class rows) (deleted_class c)) tests.1.1.0 in
        empty (profiles_in text rows) (none-else (first_profile text rows) _ (sym (ap (option_and_then (uses_class rows)) deleted) ∙ none)).0
      where
        empty : (profiles : List Profile) → slice_get profiles 0 ≡ None → profiles ≡ []
        empty [] h = refl
        empty (profile ∷ profiles) h = cc

    said-old : said_in rows ≡ map said_by cdt-there.0.profiles
    said-old = ap (λ (o : Option ClassRow). map said_by (option_map_or (λ (row : ClassRow). row.profiles) o [])) cdt-there.1

    abbrev is_there : List (List ℕ) → Said → Bool
    is_there all said = not (is_fixed said.0) && list_any (λ other. bytes_eq other said.0) all

    each-there : AllByRecursion (λ (p : Profile). is_there (names_of rows.classes) (said_by p) ≡ true) cdt-there.0.profiles
    each-there =
        all-unmap said_by (λ said. is_there (names_of rows.classes) said ≡ true) cdt-there.0.profiles
        (all-passes (is_there (names_of rows.classes)) (map said_by cdt-there.0.profiles) (sym (ap (are_there (names_of rows.classes)) said-old) ∙ there-of rows lawful.dynamic))

    -- the class isn't a fixed one
    pub dynamic : is_fixed text ≡ false
    dynamic =
        let it = all-found (λ (p : Profile). is_there (names_of rows.classes) (said_by p) ≡ true) (is_profile c.profile) cdt-there.0.profiles profile-there.0 each-there found in
        ap is_fixed (sym (same profile-there.0.name.text text (find-passes (is_profile c.profile) profile-there.0 cdt-there.0.profiles found)))
        ∙ not-true (is_fixed profile-there.0.name.text) (and_parts (not (is_fixed profile-there.0.name.text)) (list_any (λ other. bytes_eq other profile-there.0.name.text) (names_of rows.classes)) it).0

    pub not-cdt : bytes_eq text cdt ≡ false
    not-cdt = by (bytes_eq text cdt) refl
      where
        by : (b : Bool) → bytes_eq text cdt ≡ b → b ≡ false
        by false e = refl
        by true e = sym (sym dynamic ∙ ap is_fixed (same text cdt e))

    -- ---- what is found behind it
    same-names : names_of changed ≡ names_of rows.classes
    same-names = names-at_class cdt (without_profile c.profile) (λ row. refl) rows.classes

    has-others : (name : List ℕ) → bytes_eq text name ≡ false → is_some (class_of name rows) ≡ true → is_some (class_of name new) ≡ true
    has-others name differ there =
        ap is_some (without_class-others text name changed differ) ∙ found-named name changed ∙ ap (list_any (λ other. bytes_eq other name)) same-names ∙ sym (found-named name rows.classes) ∙ there

    cdt-found : class_of cdt new ≡ Some (without_profile c.profile cdt-there.0)
    cdt-found = without_class-others text cdt changed not-cdt ∙ at_class-found cdt (without_profile c.profile) cdt-there.0 rows.classes (λ row. refl) cdt-there.1

    said-new : said_in new ≡ map said_by (drop_row (is_profile c.profile) cdt-there.0.profiles)
    said-new = ap (λ (o : Option ClassRow). map said_by (option_map_or (λ (row : ClassRow). row.profiles) o [])) cdt-found

    facts : (name : List ℕ) → bytes_eq text name ≡ false → AllowsAsBefore rows new name
    facts name differ = facts-same rows new name (ap (traits_said name) said-new ∙ traits-drop name c.profile differ cdt-there.0.profiles ∙ sym (ap (traits_said name) said-old))

    -- ---- the users
    still-clauth : (name : List ℕ) → not (list_any (λ other. bytes_eq other name) (text ∷ [])) ≡ true → is_clauth_class rows name ≡ true → is_clauth_class new name ≡ true
    still-clauth name stays h = by (bytes_eq text name) refl stays (bytes_eq name (codes "USER")) (is_some (class_of name rows)) refl h
      where
        by : (d : Bool) → bytes_eq text name ≡ d → not (d || false) ≡ true → (u b : Bool) → is_some (class_of name rows) ≡ b → ((u || b) && not (bytes_eq name (codes "DATASET"))) ≡ true
            → ((u || is_some (class_of name new)) && not (bytes_eq name (codes "DATASET"))) ≡ true
        by true e s u b f k = absurd (true≢false (sym s))
        by false e s true b f k = k
        by false e s false true f k = ap (λ x. x && not (bytes_eq name (codes "DATASET"))) (has-others name e f) ∙ k
        by false e s false false f k = absurd (true≢false (sym k))

    clauth-left : (classes : List (List ℕ)) → list_all (is_clauth_class rows) classes ≡ true → list_all (is_clauth_class new) (without_classes (text ∷ []) classes) ≡ true
    clauth-left classes h =
        passes-all (is_clauth_class new) (without_classes (text ∷ []) classes)
        (all-kept (λ name. is_clauth_class new name ≡ true) (λ name. not (list_any (λ other. bytes_eq other name) (text ∷ []))) classes
        (all-each (λ name. is_clauth_class rows name ≡ true) (λ name. not (list_any (λ other. bytes_eq other name) (text ∷ [])) ≡ true → is_clauth_class new name ≡ true) (λ name k stays. still-clauth name stays k) classes
        (all-passes (is_clauth_class rows) classes h)))

    user-left : (user : User) → IsUser rows user → IsUser new (without_clauth text user)
    user-left user is = record {
      no_group = is.no_group;
      name = is.name;
      connections = record { distinct = is.connections.distinct; there = is.connections.there; default = is.connections.default; few = is.connections.few };
      classes_distinct = distinct-without_classes (text ∷ []) user.classes is.classes_distinct;
      classes_there = clauth-left user.classes is.classes_there;
      categories = is.categories;
    }

    users-left : AreUsers new.users
    users-left = record {
      distinct = subst (IsDistinct bytes_eq) (sym (map-map (without_clauth text) (λ (user : User). user.id) (λ user. refl) rows.users)) lawful.users.distinct;
      few = omega (arith, length-same (without_clauth text) rows.users, lawful.users.few);
    }

    -- ---- each class
    -- no profile of GLOBAL has the name
    global-apart : (class : ClassRow) → find (is_class class.name) rows.classes ≡ Some class → class.name ≡ codes "GLOBAL" → AllByRecursion (λ (p : Profile). bytes_eq p.name.text text ≡ false) class.profiles
    global-apart class there named =
        none-found (is_profile (general text)) class.profiles
        (sym (ap (λ (o : Option ClassRow). option_and_then (λ (row : ClassRow). find (is_profile (general text)) row.profiles) o) (ap (λ n. find (is_class n) rows.classes) (sym named) ∙ there)) ∙ no-global)

    -- a name that the class's profiles may have, in the classes behind it
    name-left : (class : ClassRow) → find (is_class class.name) rows.classes ≡ Some class → bytes_eq text class.name ≡ false → (p : Profile) → (class.name ≡ codes "GLOBAL" → bytes_eq p.name.text text ≡ false)
        → option_map_or (is_profile_name rows p.name) (facts_in class.name rows) false ≡ true → option_map_or (is_profile_name new p.name) (facts_in class.name new) false ≡ true
    name-left class there differ p global h =
        ap (λ (o : Option ClassFacts). option_map_or (is_profile_name new p.name) o false) (facts class.name differ)
        ∙ by (fixed_class class.name) refl (traits_in class.name rows) h
      where
        kept : (facts : ClassFacts) → (is_named_by facts.names rows p.name.text ≡ true → is_named_by facts.names new p.name.text ≡ true) → is_profile_name rows p.name facts ≡ true → is_profile_name new p.name facts ≡ true
        kept facts named k =
            let parts = and_parts (is_named_by facts.names rows p.name.text) (is_short facts p.name.text && (not (is_generic p.name) || facts.generic)) k in
            and_from (is_named_by facts.names new p.name.text) (is_short facts p.name.text && (not (is_generic p.name) || facts.generic)) (named parts.0) parts.1

        form-kept : (form : NameForm) → is_class_form form ≡ false → is_named_by form rows p.name.text ≡ true → is_named_by form new p.name.text ≡ true
        form-kept names.DataSet e k = k
        form-kept names.General e k = k
        form-kept names.Identifier e k = k
        form-kept names.LevelOrCategory e k = k
        form-kept names.Class e k = absurd (true≢false e)

        fixed : (f : FixedClass) → class.name ≡ class_name f → is_profile_name rows p.name (facts_of_class f) ≡ true → is_profile_name new p.name (facts_of_class f) ≡ true
        fixed Global named k = kept (facts_of_class Global) (λ is. has-others p.name.text (turned p.name.text text (global named)) is) k
        fixed Dataset named k = kept (facts_of_class Dataset) (form-kept names.DataSet refl) k
        fixed Secdata named k = kept (facts_of_class Secdata) (form-kept names.LevelOrCategory refl) k
        fixed Seclabel named k = kept (facts_of_class Seclabel) (form-kept names.Identifier refl) k
        fixed Cdt named k = kept (facts_of_class Cdt) (form-kept names.Identifier refl) k
        fixed wide named k = kept (facts_of_class wide) (λ is. refl) k

        by : (o : Option FixedClass) → fixed_class class.name ≡ o → (t : Option ClassTraits) → option_map_or (is_profile_name rows p.name) (option_or (option_map facts_of_class (fixed_class class.name)) (option_map facts_of_traits t)) false ≡ true
            → option_map_or (is_profile_name new p.name) (option_or (option_map facts_of_class (fixed_class class.name)) (option_map facts_of_traits t)) false ≡ true
        by (Some f) e t k =
            ap (λ o. option_map_or (is_profile_name new p.name) (option_or (option_map facts_of_class o) (option_map facts_of_traits t)) false) e
            ∙ fixed f (fixed-named class.name f e) (sym (ap (λ o. option_map_or (is_profile_name rows p.name) (option_or (option_map facts_of_class o) (option_map facts_of_traits t)) false) e) ∙ k)
        by None e t k =
            ap (λ o. option_map_or (is_profile_name new p.name) (option_or (option_map facts_of_class o) (option_map facts_of_traits t)) false) e
            ∙ traited t (sym (ap (λ o. option_map_or (is_profile_name rows p.name) (option_or (option_map facts_of_class o) (option_map facts_of_traits t)) false) e) ∙ k)
          where
            traited : (s : Option ClassTraits) → option_map_or (is_profile_name rows p.name) (option_map facts_of_traits s) false ≡ true → option_map_or (is_profile_name new p.name) (option_map facts_of_traits s) false ≡ true
            traited None m = m
            traited (Some traits) m = kept (facts_of_traits traits) (form traits.ids) m
              where
                form : (ids : Bool) → is_named_by (cond ids names.Identifier names.General) rows p.name.text ≡ true → is_named_by (cond ids names.Identifier names.General) new p.name.text ≡ true
                form true q = q
                form false q = q

    profile-left : (class : ClassRow) → find (is_class class.name) rows.classes ≡ Some class → bytes_eq text class.name ≡ false → (p : Profile) → (class.name ≡ codes "GLOBAL" → bytes_eq p.name.text text ≡ false)
        → IsProfile rows class.name p → IsProfile new class.name p
    profile-left class there differ p global is = record {
      name = name-left class there differ p global is.name;
      entries = is.entries;
      audit = is.audit;
      members = record { distinct = is.members.distinct; fitting = is.members.fitting; few = is.members.few; traits = is.members.traits };
      categories = is.categories;
    }

    class-left : (class : ClassRow) → find (is_class class.name) rows.classes ≡ Some class → IsClass rows class → not (is_class text class) ≡ true → IsClass new class
    class-left class there is stays =
        let differ : bytes_eq text class.name ≡ false = turned class.name text (not-true (bytes_eq class.name text) stays) in
        record {
          active = is.active;
          listed = ap (λ (o : Option ClassFacts). not class.listed || option_map_or (λ (f : ClassFacts). f.raclist) o false) (facts class.name differ) ∙ is.listed;
          profiles = each (bytes_eq class.name (codes "GLOBAL")) refl differ;
        }
      where
        each : (b : Bool) → bytes_eq class.name (codes "GLOBAL") ≡ b → bytes_eq text class.name ≡ false → AllByRecursion (IsProfile new class.name) class.profiles
        each true e differ =
            both-each (λ (p : Profile). bytes_eq p.name.text text ≡ false) (IsProfile rows class.name) (IsProfile new class.name) (λ p apart own_is. profile-left class there differ p (λ g. apart) own_is) class.profiles
            (global-apart class there (same class.name (codes "GLOBAL") e)) is.profiles
        each false e differ =
            all-each (IsProfile rows class.name) (IsProfile new class.name)
            (λ p own_is. profile-left class there differ p (λ g. absurd (true≢false (sym (itself (codes "GLOBAL")) ∙ ap (λ n. bytes_eq n (codes "GLOBAL")) (sym g) ∙ e))) own_is) class.profiles is.profiles

    -- the class CDT has a profile less
    each-class : AllByRecursion (IsClass new) new.classes
    each-class =
        all-kept (IsClass new) (λ class. not (is_class text class)) changed
        (all-at_class (λ (class : ClassRow). not (is_class text class) ≡ true → IsClass new class) cdt (without_profile c.profile) rows.classes
        (λ row found_it left stays. let it = left stays in record { active = it.active; listed = it.listed; profiles = all-drop_row (IsProfile new row.name) (is_profile c.profile) row.profiles it.profiles })
        (both-each (λ (class : ClassRow). find (is_class class.name) rows.classes ≡ Some class) (IsClass rows) (λ (class : ClassRow). not (is_class text class) ≡ true → IsClass new class)
        (λ class there is stays. class-left class there is stays) rows.classes (found-each rows.classes lawful.classes.names.distinct) lawful.each_class))

    abbrev IsRow : ClassRow → Type 0
    IsRow row = AreProfiles (kind_in row.name) row.profiles

    each-row : AllByRecursion IsRow new.classes
    each-row =
        all-filter IsRow (λ class. not (is_class text class)) changed
        (all-at_class IsRow cdt (without_profile c.profile) rows.classes (λ row found_it are. drop-profiles one puts passed_on (kind_in row.name) (is_profile c.profile) row.profiles are) lawful.classes.lawful)

    -- ---- classes and profiles of CDT belong together
    new-names : names_of new.classes ≡ without text (names_of rows.classes)
    new-names = names-without text changed ∙ ap (without text) same-names

    still-defined : (name : List ℕ) → (is_fixed name || is_said name (said_in rows)) ≡ true → not (bytes_eq name text) ≡ true → (is_fixed name || is_said name (said_in new)) ≡ true
    still-defined name h stays =
        ap (λ b. is_fixed name || b) (ap (is_said name) said-new ∙ is_said-drop name c.profile (turned name text (not-true (bytes_eq name text) stays)) cdt-there.0.profiles ∙ sym (ap (is_said name) said-old)) ∙ h

    defined : are_defined (names_of new.classes) (said_in new) ≡ true
    defined =
        ap (λ all. are_defined all (said_in new)) new-names
        ∙ passes-all (λ name. is_fixed name || is_said name (said_in new)) (without text (names_of rows.classes))
        (all-kept (λ name. (is_fixed name || is_said name (said_in new)) ≡ true) (λ name. not (bytes_eq name text)) (names_of rows.classes)
        (all-each (λ name. (is_fixed name || is_said name (said_in rows)) ≡ true) (λ name. not (bytes_eq name text) ≡ true → (is_fixed name || is_said name (said_in new)) ≡ true) still-defined (names_of rows.classes)
        (all-passes (λ name. is_fixed name || is_said name (said_in rows)) (names_of rows.classes) (defined-of rows lawful.dynamic))))

    cdt-lawful : AreProfiles (kind_in cdt-there.0.name) cdt-there.0.profiles
    cdt-lawful = all-found IsRow (is_class cdt) rows.classes cdt-there.0 lawful.classes.lawful cdt-there.1

    still-there : (p : Profile) → is_profile c.profile p ≡ false → is_there (names_of rows.classes) (said_by p) ≡ true → is_there (without text (names_of rows.classes)) (said_by p) ≡ true
    still-there p apart h =
        let parts = and_parts (not (is_fixed p.name.text)) (list_any (λ other. bytes_eq other p.name.text) (names_of rows.classes)) h in
        and_from (not (is_fixed p.name.text)) (list_any (λ other. bytes_eq other p.name.text) (without text (names_of rows.classes))) parts.0
        (any-without text p.name.text (turned p.name.text text apart) (names_of rows.classes) parts.1)

    there : are_there (names_of new.classes) (said_in new) ≡ true
    there =
        ap (λ all. are_there all (said_in new)) new-names ∙ ap (are_there (without text (names_of rows.classes))) said-new
        ∙ passes-all (is_there (without text (names_of rows.classes))) (map said_by (drop_row (is_profile c.profile) cdt-there.0.profiles))
        (all-map said_by (λ said. is_there (without text (names_of rows.classes)) said ≡ true) (drop_row (is_profile c.profile) cdt-there.0.profiles)
        (both-each (λ (p : Profile). is_profile c.profile p ≡ false) (λ (p : Profile). is_there (names_of rows.classes) (said_by p) ≡ true) (λ (p : Profile). is_there (without text (names_of rows.classes)) (said_by p) ≡ true)
        still-there (drop_row (is_profile c.profile) cdt-there.0.profiles)
        (none-left c.profile (kind_in cdt-there.0.name) cdt-there.0.profiles (kind ∙ sym (ap kind_in (same_class cdt cdt-there.0 rows.classes cdt-there.1))) cdt-lawful.named cdt-lawful.ordered)
        (all-drop_row (λ (p : Profile). is_there (names_of rows.classes) (said_by p) ≡ true) (is_profile c.profile) cdt-there.0.profiles each-there)))

    -- ---- limits
    few-profiles : profile_count new.classes ≤ 100000
    few-profiles = omega (
      arith,
      lawful.few_profiles,
      sum-filter-le (λ (row : ClassRow). length row.profiles) (λ class. not (is_class text class)) changed,
      sum-at_class-le (λ (row : ClassRow). length row.profiles) cdt (without_profile c.profile) rows.classes (λ row found_it. length-drop_row (is_profile c.profile) row.profiles),
    )

    few-entries : entry_count new.classes ≤ 1000000
    few-entries = omega (
      arith,
      lawful.few_entries,
      sum-filter-le (λ (row : ClassRow). sum_by entries_in row.profiles) (λ class. not (is_class text class)) changed,
      sum-at_class-le (λ (row : ClassRow). sum_by entries_in row.profiles) cdt (without_profile c.profile) rows.classes (λ row found_it. omega (arith, sum-drop_row (is_profile c.profile) entries_in row.profiles)),
    )

    few-connections : connections new.users ≤ 200000
    few-connections = subst (λ n. n ≤ 200000) (sym (sum-map (without_clauth text) connected_to (λ user. refl) rows.users)) lawful.few_connections

    new-lawful : AreLawful new
    new-lawful = record {
      groups = lawful.groups;
      group_names = lawful.group_names;
      users = users-left;
      each_user = all-map (without_clauth text) (IsUser new) rows.users (all-each (IsUser rows) (λ user. IsUser new (without_clauth text user)) user-left rows.users lawful.each_user);
      special_user = any-map (without_clauth text) is_special_user (λ user. refl) rows.users ∙ lawful.special_user;
      few_connections = few-connections;
      classes = record { names = names-dropped text changed (subst AreClassNames (sym same-names) lawful.classes.names) dynamic; lawful = each-row };
      each_class = each-class;
      dynamic = dynamic-from new defined there;
      few_profiles = few-profiles;
      few_entries = few-entries;
      categories = lawful.categories;
    }

    pub class_deletion-lawful : AreLawful (after_r_delete c rows)
    class_deletion-lawful = subst AreLawful (sym stepped) new-lawful

  -- ---- RDELETE, in CDT and elsewhere
  pub r_delete-lawful : (c : RDelete) (rows : Rows) → AreLawful rows → (bytes_eq c.class cdt ≡ true → is_ok (id_of c.profile.text) ≡ true) → c.profile.kind ≡ General → first_met (r_delete_conflicts c rows) ≡ None → AreLawful (after_r_delete c rows)
  r_delete-lawful c rows lawful spelled kind met = by (bytes_eq c.class cdt) refl
    where
      by : (b : Bool) → bytes_eq c.class cdt ≡ b → AreLawful (after_r_delete c rows)
      by true own = class_deletion-lawful c rows lawful own (spelled own) kind met
      by false other =
          subst AreLawful (sym (ap (λ b. class_dropped (cond b (named_class c.profile) None) (profile_dropped c.class c.profile rows)) other))
          (profile-dropped-lawful one puts passed_on rows c.class c.profile other lawful)
