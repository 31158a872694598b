-- A new profile of a class has a name that the class's profiles may have.
use Rattle.std.proofs.Common.{◌≡◌, ℕ, Bool, true, false, not, ◌&&◌, ◌||◌, List, [], ◌∷◌, length, Option, option_map, Some, None, Result, Ok, Err, is_some, is_ok, bytes_eq, codes, refl, sym, ap, ◌∙◌, true≢false}
use Rattle.std.specs.Prelude.{find, nat_le}
use Rattle.std.specs.Option.{option_map_or, option_and_then, option_or}
use Rattle.std.specs.Result.{result_ok}
use Rattle.std.proofs.lemmas.Bool.{not-false, or_parts, or_right}
use Rattle.access_levels.specs.Spelling.{id_of, name_of}
use Rattle.access_levels.specs.declared.ids.IdFault.{IdFault}
use Rattle.access_levels.proofs.SpelledIds.{id_of-itself}
use Rattle.generic_names.specs.Spelled.{Spelled, first_qualifier}
use Rattle.generic_names.specs.Covers.{is_generic}
use Rattle.racf_profiles.specs.declared.fixed_classes.FixedClass.{FixedClass}
use Rattle.racf_profiles.specs.declared.fixed_classes.FixedClass.TheVariants.{Dataset, Secdata, Seclabel, Global, Cdt}
use Rattle.racf_profiles.specs.declared.profiles.Profile.{Profile}
use Rattle.racf_profiles.specs.declared.profiles.ClassTraits.{ClassTraits}
use Rattle.racf_profiles.specs.declared.class_rows.ClassRow.{ClassRow}
use Rattle.racf_profiles.specs.declared.fixed_classes.NameForm.{NameForm}
use Rattle.racf_profiles.specs.declared.fixed_classes.NameForm.TheVariants as names
use Rattle.racf_profiles.specs.declared.fixed_classes.ClassFacts.{ClassFacts}
use Rattle.racf_profiles.specs.declared.rows.Rows.{Rows}
use Rattle.racf_profiles.specs.ClassTable.{class_name, fixed_class, fixed_classes, facts_of_class}
use Rattle.racf_profiles.specs.DynamicClasses.{cdt, general, traits_of, traits_in, facts_of_traits, facts_in, is_fixed}
use Rattle.racf_profiles.specs.Lookup.{is_class, is_profile, class_of, profile_of}
use Rattle.racf_profiles.specs.LawfulProfiles.{IsClass, IsProfile, is_profile_name}
use Rattle.racf_profiles.specs.Lawful.{AreLawful}
use Rattle.racf_profiles.proofs.Found.{all-found, found_passes}
use Rattle.racf_profiles.proofs.States.{find-passes}
use Rattle.group_tree.proofs.Rows.{same, itself}
use Rattle.command_rules.specs.ProfileEffects.{dataset}
use Rattle.command_rules.specs.ProfileConflicts.{no_resource_class, no_global_class, classless, not_generic, has_generic, name_not_allowed, may_be_named}
use Rattle.command_rules.proofs.Unmet.{unmet}

-- ---- a class that is there is a fixed one, or has its traits
pub fixed-named : (class : List ℕ) (fixed : FixedClass) → fixed_class class ≡ Some fixed → class ≡ class_name fixed
fixed-named class fixed found = sym (same (class_name fixed) class (find-passes (λ f. bytes_eq (class_name f) class) fixed fixed_classes found))

pub some-there : {X : Type 0} (o : Option X) → is_some o ≡ true → (x : X) × (o ≡ Some x)
some-there None h = absurd (true≢false (sym h))
some-there (Some x) h = (x, refl)

module _ (rows : Rows) (lawful : AreLawful rows) where
  -- the traits of a profile in CDT
  cdt-traits : (name : Spelled) (profile : Profile) → profile_of cdt name rows ≡ Some profile → is_some (traits_of profile.members) ≡ true
  cdt-traits name profile found = by (class_of cdt rows) refl found
    where
      by : (o : Option ClassRow) → class_of cdt rows ≡ o → option_and_then (λ (row : ClassRow). find (is_profile name) row.profiles) o ≡ Some profile → is_some (traits_of profile.members) ≡ true
      by None e f = cc
      by (Some row) e f =
          let class = all-found (IsClass rows) (is_class cdt) rows.classes row lawful.each_class e in
          let is = all-found (IsProfile rows row.name) (is_profile name) row.profiles profile class.profiles f in
          sym (ap (λ b. not b || is_some (traits_of profile.members)) (find-passes (is_class cdt) row rows.classes e)) ∙ is.members.traits

  pub traits-there : (class : List ℕ) → is_fixed class ≡ false → is_some (class_of class rows) ≡ true → (traits : ClassTraits) × (traits_in class rows ≡ Some traits)
  traits-there class dynamic there =
      let row = some-there (class_of class rows) there in
      let named : row.0.name ≡ class = same row.0.name class (find-passes (is_class class) row.0 rows.classes row.1) in
      let defined : is_some (profile_of cdt (general class) rows) ≡ true =
      sym (ap (λ b. b || is_some (profile_of cdt (general class) rows)) dynamic)
      ∙ ap (λ n. is_fixed n || is_some (profile_of cdt (general n) rows)) (sym named)
      ∙ found_passes (is_class class) (λ (r : ClassRow). is_fixed r.name || is_some (profile_of cdt (general r.name) rows)) rows.classes row.0 lawful.dynamic.defined row.1 in
      let profile = some-there (profile_of cdt (general class) rows) defined in
      let traits = some-there (traits_of profile.0.members) (cdt-traits (general class) profile.0 profile.1) in
      (traits.0, ap (option_and_then (λ (p : Profile). traits_of p.members)) profile.1 ∙ traits.1)

-- ---- the name, by the form that the class's names have; a profile of GLOBAL needs its class beside
abbrev pub is_spelled_by : NameForm → Spelled → Bool
is_spelled_by names.DataSet name = is_ok (id_of (first_qualifier name.text))
is_spelled_by names.General name = true
is_spelled_by names.LevelOrCategory name = bytes_eq name.text (codes "SECLEVEL") || bytes_eq name.text (codes "CATEGORY")
is_spelled_by names.Identifier name = is_generic name || is_ok (id_of name.text)
is_spelled_by names.Class name = is_ok (id_of name.text)

module _ (rows : Rows) (class : List ℕ) (name : Spelled) where
  pub resource-class : no_resource_class class rows ≡ None → (bytes_eq class dataset ≡ false) × (is_some (class_of class rows) ≡ true)
  unfolding no_resource_class
  resource-class h =
      let parts = or_parts (bytes_eq class dataset) (not (is_some (class_of class rows))) (unmet (bytes_eq class dataset || not (is_some (class_of class rows))) _ h) in
      (parts.0, not-false (is_some (class_of class rows)) parts.1)

  global-named : bytes_eq class (codes "GLOBAL") ≡ true → is_ok (id_of name.text) ≡ true → no_global_class class name rows ≡ None → is_some (class_of name.text rows) ≡ true
  unfolding no_global_class
  global-named global spelled h = by (id_of name.text) refl spelled (sym (ap (λ b. classless b (result_ok (id_of name.text)) rows) global) ∙ h)
    where
      by : (r : Result (List ℕ) IdFault) → id_of name.text ≡ r → is_ok r ≡ true → classless true (result_ok r) rows ≡ None → is_some (class_of name.text rows) ≡ true
      by (Ok id) e s k = ap (λ n. is_some (class_of n rows)) (id_of-itself name.text id e) ∙ not-false (is_some (class_of id rows)) (unmet (true && not (is_some (class_of id rows))) _ k)
      by (Err fault) e s k = absurd (true≢false (sym s))

  -- where the class has no generic profiles the name isn't generic
  not-generic : (facts : ClassFacts) → facts_in class rows ≡ Some facts → not_generic class name rows ≡ None → (is_generic name && not facts.generic) ≡ false
  unfolding not_generic
  not-generic facts is h =
      ap (λ (o : Option ClassFacts). is_generic name && not (option_map_or (λ (f : ClassFacts). f.generic) o false)) (sym is)
      ∙ unmet (is_generic name && not (has_generic class rows)) _ h

  -- in a dynamic class it is one that the class allows
  allowed-name : (facts : ClassFacts) → is_fixed class ≡ false → facts_in class rows ≡ Some facts → name_not_allowed class name rows ≡ None → may_be_named name facts ≡ true
  unfolding name_not_allowed
  allowed-name facts dynamic is h =
      not-false (may_be_named name facts)
      (ap (λ (o : Option ClassFacts). not (option_map_or (may_be_named name) o true)) (sym is)
      ∙ sym (ap (λ b. not b && not (option_map_or (may_be_named name) (facts_in class rows) true)) dynamic)
      ∙ unmet (not (is_fixed class) && not (option_map_or (may_be_named name) (facts_in class rows) true)) _ h)

  -- ---- a fixed class
  -- of two tests the first holds, and the name isn't generic
  plain : (a b : Bool) → a ≡ true → (b && true) ≡ false → (a && (not b || false)) ≡ true
  plain a true p q = absurd (true≢false q)
  plain a false p q = ap (λ x. x && true) p

  labelled : (a b : Bool) → (a || b) ≡ true → (a && true) ≡ false → (b && (not a || false)) ≡ true
  labelled true b p q = absurd (true≢false q)
  labelled false b p q = ap (λ x. x && true) p

  fixed-name : bytes_eq class cdt ≡ false → no_global_class class name rows ≡ None → (fixed : FixedClass) → class ≡ class_name fixed → bytes_eq class dataset ≡ false → is_spelled_by (facts_of_class fixed).names name ≡ true
      → (is_generic name && not (facts_of_class fixed).generic) ≡ false → is_profile_name rows name (facts_of_class fixed) ≡ true
  fixed-name chosen g Dataset is other s m = absurd (true≢false (sym (itself dataset) ∙ ap (λ c. bytes_eq c dataset) (sym is) ∙ other))
  fixed-name chosen g Secdata is other s m = plain (bytes_eq name.text (codes "SECLEVEL") || bytes_eq name.text (codes "CATEGORY")) (is_generic name) s m
  fixed-name chosen g Seclabel is other s m = labelled (is_generic name) (is_ok (id_of name.text)) s m
  fixed-name chosen g Global is other s m = plain (is_some (class_of name.text rows)) (is_generic name) (global-named (ap (λ c. bytes_eq c (codes "GLOBAL")) is ∙ itself (codes "GLOBAL")) s g) m
  fixed-name chosen g Cdt is other s m = absurd (true≢false (sym (itself cdt) ∙ ap (λ c. bytes_eq c cdt) (sym is) ∙ chosen))
  fixed-name chosen g general_class is other s m = or_right (not (is_generic name)) true refl

  -- ---- a dynamic class
  dynamic-name : (operations ids : Bool) (longest : ℕ) → (is_generic name && not (not ids)) ≡ false
      → may_be_named name (facts_of_traits (record { operations = operations; ids = ids; longest = longest })) ≡ true → is_profile_name rows name (facts_of_traits (record { operations = operations; ids = ids; longest = longest })) ≡ true
  dynamic-name operations true longest m may = by (nat_le (length name.text) longest) (is_generic name) m may
    where
      by : (short wide : Bool) → (wide && true) ≡ false → (short && (wide || is_ok (id_of name.text))) ≡ true → (is_ok (id_of name.text) && (short && (not wide || false))) ≡ true
      by short true p q = absurd (true≢false p)
      by true false p q = ap (λ b. b && true) q
      by false false p q = absurd (true≢false (sym q))
  dynamic-name operations false longest m may = by (nat_le (length name.text) longest) (is_generic name) may
    where
      by : (short wide : Bool) → (short && (wide || true)) ≡ true → (short && (not wide || true)) ≡ true
      by true true q = refl
      by true false q = refl
      by false wide q = absurd (true≢false (sym q))

  pub is_profile_name-new : AreLawful rows → bytes_eq class cdt ≡ false → ((fixed : FixedClass) → class ≡ class_name fixed → bytes_eq class dataset ≡ false → is_spelled_by (facts_of_class fixed).names name ≡ true)
      → no_resource_class class rows ≡ None → no_global_class class name rows ≡ None → not_generic class name rows ≡ None → name_not_allowed class name rows ≡ None
      → option_map_or (is_profile_name rows name) (facts_in class rows) false ≡ true
  is_profile_name-new lawful chosen spelled h g n a = by (fixed_class class) refl
    where
      there : (bytes_eq class dataset ≡ false) × (is_some (class_of class rows) ≡ true)
      there = resource-class h

      by : (o : Option FixedClass) → fixed_class class ≡ o → option_map_or (is_profile_name rows name) (facts_in class rows) false ≡ true
      by (Some fixed) e =
          let is : facts_in class rows ≡ Some (facts_of_class fixed) = ap (λ o. option_or (option_map facts_of_class o) (option_map facts_of_traits (traits_in class rows))) e in
          let named = fixed-named class fixed e in
          ap (λ (o : Option ClassFacts). option_map_or (is_profile_name rows name) o false) is
          ∙ fixed-name chosen g fixed named there.0 (spelled fixed named there.0) (not-generic (facts_of_class fixed) is n)
      by None e =
          let dynamic : is_fixed class ≡ false = ap is_some e in
          let traits = traits-there rows lawful class dynamic there.1 in
          let is : facts_in class rows ≡ Some (facts_of_traits traits.0) =
          ap (λ o. option_or (option_map facts_of_class o) (option_map facts_of_traits (traits_in class rows))) e ∙ ap (option_map facts_of_traits) traits.1 in
          ap (λ (o : Option ClassFacts). option_map_or (is_profile_name rows name) o false) is
          ∙ dynamic-name traits.0.operations traits.0.ids traits.0.longest (not-generic (facts_of_traits traits.0) is n) (allowed-name (facts_of_traits traits.0) dynamic is a)
