-- The limits of a profile that is new: one more than there are.
use Rattle.std.proofs.Common.{◌≡◌, ℕ, ◌+◌, Bool, true, false, cond, ◌||◌, List, [], ◌∷◌, ◌++◌, Option, None, Some, is_some, length, refl, sym, ap, ◌∙◌, arith, length-append}
use Rattle.std.proofs.lemmas.Bool.{or_parts}
use Rattle.std.proofs.lemmas.List.Sums.{sum_by-cons}
use Rattle.access_levels.proofs.Options.{none_from_is_some}
use Rattle.std.specs.Prelude.{find, sum_by, option_and_then}
use Rattle.std.specs.Option.{option_map_or}
use Rattle.racf_profiles.specs.declared.profiles.Profile.{Profile}
use Rattle.racf_profiles.specs.declared.class_rows.ClassRow.{ClassRow}
use Rattle.racf_profiles.specs.declared.rows.Rows.{Rows}
use Rattle.racf_profiles.specs.DynamicClasses.{cdt}
use Rattle.racf_profiles.specs.Edits.{at_class, with_profile, added_class}
use Rattle.racf_profiles.specs.Lookup.{is_class, class_of, profile_of}
use Rattle.racf_profiles.specs.Names.{is_class_word}
use Rattle.racf_profiles.proofs.States.{at_class-found}
use Rattle.command_fields.specs.declared.class_fields.DefineClass.{DefineClass}
use Rattle.racf_profiles.specs.Counts.{profile_count}
use Rattle.racf_profiles.specs.Limits.{most_dynamic_classes, most_class_profiles, most_profiles, most_members, most_categories}
use Rattle.racf_profiles.specs.LawfulProfiles.{AreClasses}
use Rattle.racf_profiles.proofs.OrderedProfiles.{profile-put}
use Rattle.command_fields.specs.declared.issuer.Issuer.{Issuer}
use Rattle.command_fields.specs.declared.profile_fields.AddSd.{AddSd}
use Rattle.command_fields.specs.declared.profile_fields.RDefine.{RDefine}
use Rattle.command_rules.specs.ProfileEffects.{dataset, new_data_set, new_resource, named_class, new_class_profile, class_added, profile_put}
use Rattle.command_rules.specs.Members.{categories_defined}
use Rattle.command_rules.specs.declared.conflict.Conflict.{Conflict}
use Rattle.command_rules.specs.declared.conflict.Limit.TheVariants.{ClassProfiles, Profiles, Members, Categories, Classes}
use Rattle.command_rules.specs.Required.{first_met, over}
use Rattle.command_rules.specs.ProfileConflicts.{profiles_in, define_class_requirements, define_class_limits, new_class_limits, classes_full, class_taken, classes_more, dynamic_among, class_profiles_full, profiles_full, members_full, categories_full, add_sd_requirements, add_sd_limits, r_define_requirements, r_define_limits, new_profile_limits, new_resource_limits}
use Rattle.command_rules.proofs.Unmet.{each_unmet, unmet}
use Rattle.command_conflicts.proofs.NewProfiles.{profile_absent, class_there, dataset_there, some_class, length-profiles_in-put, profile_count-put}

pub add_sd-limits : (issuer : Issuer) (c : AddSd) (rows : Rows) → AreClasses rows.classes → first_met (add_sd_requirements c rows) ≡ None → first_met (add_sd_limits issuer c rows) ≡ first_met (new_profile_limits dataset rows)
unfolding add_sd_requirements add_sd_limits class_profiles_full profiles_full
add_sd-limits issuer c rows lawful none =
    let unmet = each_unmet (add_sd_requirements c rows) none in
    let absent = profile_absent dataset c.profile rows unmet.1.1.0 in
    let row = some_class dataset rows (dataset_there rows lawful) in
    let p : Profile = new_data_set issuer c rows in
    ap (λ n. first_met (over ClassProfiles most_class_profiles n ∷ over Profiles most_profiles (profile_count (profile_put dataset p rows).classes) ∷ [])) (length-profiles_in-put dataset p rows row.0 row.1 absent)
    ∙ ap (λ n. first_met (over ClassProfiles most_class_profiles (length (profiles_in dataset rows) + 1) ∷ over Profiles most_profiles n ∷ [])) (profile_count-put dataset p rows row.0 row.1 absent)

pub r_define-limits : (issuer : Issuer) (c : RDefine) (rows : Rows) → first_met (r_define_requirements c rows) ≡ None → first_met (r_define_limits issuer c rows) ≡ first_met (new_resource_limits c rows)
unfolding r_define_requirements r_define_limits class_profiles_full profiles_full members_full categories_full
r_define-limits issuer c rows none =
    let unmet = each_unmet (r_define_requirements c rows) none in
    let row = some_class c.class rows (class_there c.class rows unmet.1.0) in
    let absent = profile_absent c.class c.profile rows unmet.1.1.1.0 in
    let p : Profile = new_resource issuer c rows in
    let categories : Option Conflict = over Categories most_categories (length (categories_defined c.addmem rows.options.categories)) in
    let members : Option Profile → Option Conflict = option_and_then (λ (q : Profile). over Members most_members (length q.members)) in
    ap (λ o. first_met (over ClassProfiles most_class_profiles (length (profiles_in c.class (profile_put c.class p rows))) ∷ over Profiles most_profiles (profile_count (profile_put c.class p rows).classes) ∷ members o ∷ categories ∷ []))
    (profile-put c.class p row.0 rows.classes row.1)
    ∙ ap (λ n. first_met (over ClassProfiles most_class_profiles n ∷ over Profiles most_profiles (profile_count (profile_put c.class p rows).classes) ∷ members (Some p) ∷ categories ∷ [])) (length-profiles_in-put c.class p rows row.0 row.1 absent)
    ∙ ap (λ n. first_met (over ClassProfiles most_class_profiles (length (profiles_in c.class rows) + 1) ∷ over Profiles most_profiles n ∷ members (Some p) ∷ categories ∷ [])) (profile_count-put c.class p rows row.0 row.1 absent)

-- ---- a class with its profile
sum-last : (weight : ClassRow → ℕ) (row : ClassRow) (classes : List ClassRow) → weight row ≡ 0 → sum_by weight (classes ++ row ∷ []) ≡ sum_by weight classes
sum-last weight row [] none = let one = sum_by-cons weight row [] in omega (arith, one, none)
sum-last weight row (class ∷ classes) none = omega (arith, sum_by-cons weight class (classes ++ row ∷ []), sum_by-cons weight class classes, sum-last weight row classes none)

find-last : (p : ClassRow → Bool) (found row : ClassRow) (classes : List ClassRow) → find p classes ≡ Some found → find p (classes ++ row ∷ []) ≡ Some found
find-last p found row [] is = cc
find-last p found row (class ∷ classes) is = by (p class) is (find-last p found row classes)
  where
    by : (b : Bool) → cond b (Some class) (find p classes) ≡ Some found → (find p classes ≡ Some found → find p (classes ++ row ∷ []) ≡ Some found) → cond b (Some class) (find p (classes ++ row ∷ [])) ≡ Some found
    by true here rest = here
    by false here rest = rest here

length-at_class : (class : List ℕ) (change : ClassRow → ClassRow) (classes : List ClassRow) → length (at_class class change classes) ≡ length classes
length-at_class class change [] = refl
length-at_class class change (row ∷ classes) = by (is_class class row) (length-at_class class change classes)
  where
    by : (b : Bool) → length (at_class class change classes) ≡ length classes → length (cond b (change row ∷ classes) (row ∷ at_class class change classes)) ≡ length (row ∷ classes)
    by true rest = refl
    by false rest = omega (arith, rest)

module _ (rows : Rows) where
  added-profiles : (o : Option (List ℕ)) → profile_count (class_added o rows).classes ≡ profile_count rows.classes
  added-profiles None = refl
  added-profiles (Some class) = sum-last (λ (row : ClassRow). length row.profiles) (added_class class) rows.classes refl

  added-in : (class : List ℕ) (row : ClassRow) → class_of class rows ≡ Some row → (o : Option (List ℕ)) → profiles_in class (class_added o rows) ≡ profiles_in class rows
  added-in class row found None = refl
  added-in class row found (Some name) = ap (λ (p : Option ClassRow). option_map_or (λ (r : ClassRow). r.profiles) p []) (find-last (is_class class) row (added_class name) rows.classes found ∙ sym found)

  added-length : (o : Option (List ℕ)) → length (class_added o rows).classes ≡ length rows.classes + classes_more o
  added-length None = omega arith
  added-length (Some class) = length-append rows.classes (added_class class ∷ [])

pub define_class-limits : (issuer : Issuer) (c : DefineClass) (rows : Rows) → first_met (define_class_requirements c rows) ≡ None → first_met (define_class_limits issuer c rows) ≡ first_met (new_class_limits c rows)
unfolding define_class_requirements define_class_limits class_profiles_full profiles_full classes_full class_taken
define_class-limits issuer c rows none =
    let unmet_tests = each_unmet (define_class_requirements c rows) none in
    let row = some_class cdt rows (class_there cdt rows unmet_tests.1.0) in
    let free : is_some (profile_of cdt c.profile rows) ≡ false =
    (or_parts (is_some (profile_of cdt c.profile rows)) (option_map_or (is_class_word rows) (named_class c.profile) false)
    (unmet (is_some (profile_of cdt c.profile rows) || option_map_or (is_class_word rows) (named_class c.profile) false) _ unmet_tests.1.1.0)).0 in
    let absent : profile_of cdt c.profile rows ≡ None = none_from_is_some (profile_of cdt c.profile rows) free in
    let p : Profile = new_class_profile issuer c in
    let put : Rows = profile_put cdt p rows in
    let there : class_of cdt put ≡ Some (with_profile p row.0) = at_class-found cdt (with_profile p) row.0 rows.classes (λ r. refl) row.1 in
    let limits : ℕ → ℕ → ℕ → List (Option Conflict) = λ n m k. over ClassProfiles most_class_profiles n ∷ over Profiles most_profiles m ∷ over Classes most_dynamic_classes (dynamic_among k) ∷ [] in
    let after : Rows = class_added (named_class c.profile) put in
    ap (λ n. first_met (limits n (profile_count after.classes) (length after.classes))) (ap (λ (ps : List Profile). length ps) (added-in put cdt (with_profile p row.0) there (named_class c.profile)) ∙ length-profiles_in-put cdt p rows row.0 row.1 absent)
    ∙ ap (λ m. first_met (limits (length (profiles_in cdt rows) + 1) m (length after.classes))) (added-profiles put (named_class c.profile) ∙ profile_count-put cdt p rows row.0 row.1 absent)
    ∙ ap (λ k. first_met (limits (length (profiles_in cdt rows) + 1) (profile_count rows.classes + 1) k)) (added-length put (named_class c.profile) ∙ ap (λ n. n + classes_more (named_class c.profile)) (length-at_class cdt (with_profile p) rows.classes))
