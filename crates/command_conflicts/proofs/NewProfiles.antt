-- The counts after a profile was put, where it is new, and after one that is there was changed.
use Rattle.std.proofs.Common.{◌≡◌, ℕ, ◌+◌, ◌≤◌, Bool, true, false, cond, not, ◌||◌, List, [], ◌∷◌, map, take, Option, None, Some, IsSome, is_some, option_and_then, length, bytes_eq, refl, sym, ap, subst, ◌∙◌, true≢false, arith}
use Rattle.std.specs.Prelude.{find, sum_by, nat_lt}
use Rattle.std.specs.Option.{option_map_or}
use Rattle.std.proofs.lemmas.Bool.{not-false, or_parts}
use Rattle.std.proofs.lemmas.Bool.Decides.{nat_tests}
use Rattle.std.proofs.lemmas.Slice.Eq.{bytes_eq-Decides}
use Rattle.generic_names.specs.Before.{before}
use Rattle.generic_names.specs.Laws.{IsPattern}
use Rattle.generic_names.specs.Spelled.{Spelled}
use Rattle.racf_profiles.specs.declared.profiles.Profile.{Profile}
use Rattle.racf_profiles.specs.declared.class_rows.ClassRow.{ClassRow}
use Rattle.racf_profiles.specs.declared.rows.Rows.{Rows}
use Rattle.racf_profiles.specs.Lookup.{is_class, is_profile, class_of, profile_of}
use Rattle.racf_profiles.specs.Edits.{put_profile, at_class, with_profile}
use Rattle.racf_profiles.specs.Counts.{profile_count, entry_count, entries_in}
use Rattle.racf_profiles.specs.ClassTable.{class_name, fixed_classes}
use Rattle.racf_profiles.specs.LawfulProfiles.{AreClasses, AreProfiles, kind_in, names_of}
use Rattle.racf_profiles.proofs.OrderedProfiles.{profile-put}
use Rattle.racf_profiles.proofs.States.{at_class-found, find-passes}
use Rattle.std.proofs.lemmas.List.Sums.{sum_by-cons}
use Rattle.access_levels.proofs.Options.{none_from_is_some}
use Rattle.racf_profiles.proofs.Found.{all-found}
use Rattle.class_profiles.specs.Classes.{profile_in}
use Rattle.command_rules.specs.ProfileEffects.{profile_put, profile_changed, dataset}
use Rattle.command_rules.specs.declared.conflict.Conflict.TheVariants.{Full}
use Rattle.command_rules.specs.declared.conflict.Limit.{Limit}
use Rattle.command_rules.specs.Required.{if_met, over}
use Rattle.command_rules.specs.ProfileConflicts.{profile_taken, no_resource_class, profiles_in}
use Rattle.command_rules.proofs.Unmet.{unmet}
use Rattle.class_profiles.proofs.Counts.{found-le}

-- ---- what the tests leave
pub profile_absent : (class : List ℕ) (name : Spelled) (rows : Rows) → profile_taken class name rows ≡ None → profile_of class name rows ≡ None
unfolding profile_taken
profile_absent class name rows h = none_from_is_some (profile_of class name rows) (unmet (is_some (profile_of class name rows)) _ h)

pub class_there : (class : List ℕ) (rows : Rows) → no_resource_class class rows ≡ None → IsSome (class_of class rows)
unfolding no_resource_class
class_there class rows h = not-false (is_some (class_of class rows)) (or_parts (bytes_eq class dataset) (not (is_some (class_of class rows))) (unmet (bytes_eq class dataset || not (is_some (class_of class rows))) _ h)).1

-- DATASET is one of the classes
pub dataset_there : (rows : Rows) → AreClasses rows.classes → IsSome (class_of dataset rows)
dataset_there rows lawful = by rows.classes lawful.names.fixed
  where
    by : (classes : List ClassRow) → take (length fixed_classes) (names_of classes) ≡ map class_name fixed_classes → IsSome (find (is_class dataset) classes)
    by [] names = cc
    by (c ∷ cs) names =
        let first : c.name ≡ dataset = cc in
        ap (λ n. is_some (cond (bytes_eq n dataset) (Some c) (find (is_class dataset) cs))) first

pub some_class : (class : List ℕ) (rows : Rows) → IsSome (class_of class rows) → (row : ClassRow) × (class_of class rows ≡ Some row)
some_class class rows there = by (class_of class rows) there
  where
    by : (o : Option ClassRow) → IsSome o → (row : ClassRow) × (o ≡ Some row)
    by None h = absurd (true≢false (sym h))
    by (Some row) h = (row, refl)

-- ---- sums over classes
sum-changed : (name : List ℕ) (weight : ClassRow → ℕ) (change : ClassRow → ClassRow) (more : ℕ) (row : ClassRow) (classes : List ClassRow) → find (is_class name) classes ≡ Some row → weight (change row) ≡ weight row + more
    → sum_by weight (at_class name change classes) ≡ sum_by weight classes + more
sum-changed name weight change more row [] found step = cc
sum-changed name weight change more row (c ∷ cs) found step = by (is_class name c) found (λ rest. sum-changed name weight change more row cs rest step)
  where
    by : (b : Bool) → cond b (Some c) (find (is_class name) cs) ≡ Some row → (find (is_class name) cs ≡ Some row → sum_by weight (at_class name change cs) ≡ sum_by weight cs + more)
        → sum_by weight (cond b (change c ∷ cs) (c ∷ at_class name change cs)) ≡ sum_by weight (c ∷ cs) + more
    by true here rest =
        let same : c ≡ row = cc in
        let own : weight (change c) ≡ weight c + more = subst (λ (r : ClassRow). weight (change r) ≡ weight r + more) (sym same) step in
        omega (arith, sum_by-cons weight (change c) cs, sum_by-cons weight c cs, own)
    by false here rest = omega (arith, sum_by-cons weight c (at_class name change cs), sum_by-cons weight c cs, rest here)

-- ---- one profile more
pub length-put_new : (p : Profile) (ps : List Profile) → find (is_profile p.name) ps ≡ None → length (put_profile p ps) ≡ length ps + 1
length-put_new p [] absent = refl
length-put_new p (y ∷ ys) absent = by (is_profile p.name y) (before p.name y.name) absent (length-put_new p ys)
  where
    by : (s t : Bool) → cond s (Some y) (find (is_profile p.name) ys) ≡ None → (find (is_profile p.name) ys ≡ None → length (put_profile p ys) ≡ length ys + 1)
        → length (cond s (p ∷ ys) (cond t (p ∷ y ∷ ys) (y ∷ put_profile p ys))) ≡ length (y ∷ ys) + 1
    by true t h rest = cc
    by false true h rest = omega arith
    by false false h rest = omega (arith, rest h)

module _ (class : List ℕ) (p : Profile) (rows : Rows) (row : ClassRow) (found : class_of class rows ≡ Some row) (absent : profile_of class p.name rows ≡ None) where
  absent_there : find (is_profile p.name) row.profiles ≡ None
  absent_there = sym (ap (λ o. option_and_then (λ (r : ClassRow). find (is_profile p.name) r.profiles) o) found) ∙ absent

  pub length-profiles_in-put : length (profiles_in class (profile_put class p rows)) ≡ length (profiles_in class rows) + 1
  length-profiles_in-put =
      ap (λ o. length (option_map_or (λ (r : ClassRow). r.profiles) o [])) (at_class-found class (with_profile p) row rows.classes (λ c. refl) found)
      ∙ length-put_new p row.profiles absent_there
      ∙ sym (ap (λ o. length (option_map_or (λ (r : ClassRow). r.profiles) o []) + 1) found)

  pub profile_count-put : profile_count (profile_put class p rows).classes ≡ profile_count rows.classes + 1
  profile_count-put =
      let step : length (put_profile p row.profiles) ≡ length row.profiles + 1 = length-put_new p row.profiles absent_there in
      omega (arith, sum-changed class (λ (c : ClassRow). length c.profiles) (with_profile p) 1 row rows.classes found step)

-- ---- a profile that is there, changed
in_class : (class : List ℕ) (name : Spelled) (o : Option ClassRow) (old : Profile) → option_and_then (λ (r : ClassRow). find (is_profile name) r.profiles) o ≡ Some old → (row : ClassRow) × (o ≡ Some row) × (find (is_profile name) row.profiles ≡ Some old)
in_class class name None old found = cc
in_class class name (Some row) old found = (row, refl, found)

module _ (class : List ℕ) (name : Spelled) (change : Profile → Profile) (keeps : (p : Profile) → (change p).name ≡ p.name) (rows : Rows) where
  pub changed-absent : profile_of class name rows ≡ None → profile_changed class name change rows ≡ rows
  changed-absent absent = ap (λ o. option_map_or (λ old. profile_put class (change old) rows) o rows) absent

  pub changed-none : profile_of class name rows ≡ None → profile_of class name (profile_changed class name change rows) ≡ None
  changed-none absent = ap (profile_of class name) (changed-absent absent) ∙ absent

  module _ (old : Profile) (found : profile_of class name rows ≡ Some old) where
    changed-is : profile_changed class name change rows ≡ profile_put class (change old) rows
    changed-is = ap (λ o. option_map_or (λ p. profile_put class (change p) rows) o rows) found

    text : (change old).name.text ≡ name.text
    text =
        let there = in_class class name (class_of class rows) old found in
        ap (λ (n : Spelled). n.text) (keeps old) ∙ (bytes_eq-Decides old.name.text name.text).0 (find-passes (is_profile name) old there.0.profiles there.2)

    pub changed-there : profile_of class name (profile_changed class name change rows) ≡ Some (change old)
    changed-there =
        let there = in_class class name (class_of class rows) old found in
        ap (profile_of class name) changed-is
        ∙ ap (λ (t : List ℕ). profile_of class (let n : Spelled = record { kind = name.kind; text = t } in n) (profile_put class (change old) rows)) (sym text)
        ∙ profile-put class (change old) there.0 rows.classes there.1

    -- the entries of the new profile count in place of the old one's
    pub entry_count-changed : ((class : List ℕ) (row : ClassRow) (profile : Profile) (classes : List ClassRow) → AreClasses classes → find (is_class class) classes ≡ Some row → profile.name.kind ≡ kind_in class
        → entry_count (at_class class (with_profile profile) classes) + option_map_or entries_in (profile_in class profile.name classes) 0 ≡ entry_count classes + entries_in profile)
        → AreClasses rows.classes → entry_count (profile_changed class name change rows).classes + entries_in old ≡ entry_count rows.classes + entries_in (change old)
    entry_count-changed counted lawful =
        let there = in_class class name (class_of class rows) old found in
        let row = there.0 in
        let profiles : AreProfiles (kind_in row.name) row.profiles = all-found (λ (c : ClassRow). AreProfiles (kind_in c.name) c.profiles) (is_class class) rows.classes row lawful.lawful there.1 in
        let kind = (all-found (λ (p : Profile). IsPattern p.name × (p.name.kind ≡ kind_in row.name)) (is_profile name) row.profiles old profiles.named there.2).1 in
        let same : (change old).name.kind ≡ kind_in class =
        ap (λ (n : Spelled). n.kind) (keeps old) ∙ kind ∙ ap kind_in ((bytes_eq-Decides row.name class).0 (find-passes (is_class class) row rows.classes there.1)) in
        let before : option_map_or entries_in (profile_in class (change old).name rows.classes) 0 ≡ entries_in old =
        ap (λ (t : List ℕ). option_map_or entries_in (profile_of class (let n : Spelled = record { kind = name.kind; text = t } in n) rows) 0) text ∙ ap (λ o. option_map_or entries_in o 0) found in
        omega (arith, counted class there.0 (change old) rows.classes lawful there.1 same, before, ap (λ (r : Rows). entry_count r.classes) changed-is)

    -- and they are no more than all
    pub entries-le : entries_in old ≤ entry_count rows.classes
    entries-le =
        let there = in_class class name (class_of class rows) old found in
        omega (arith, found-le (is_profile name) entries_in there.0.profiles old there.2, found-le (is_class class) (λ (c : ClassRow). sum_by entries_in c.profiles) rows.classes there.0 there.1)

-- ---- what is within a limit doesn't pass it
pub not_over : (limit : Limit) (most count : ℕ) → count ≤ most → over limit most count ≡ None
not_over limit most count few = let less : nat_lt most count ≡ false = grind (arith, nat_tests) in ap (λ b. if_met b (Full limit most)) less
