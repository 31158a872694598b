-- What a change of one class makes of the counts of all.
use Rattle.std.proofs.Common.{◌≡◌, ℕ, ◌+◌, ◌-◌, ◌<◌, ◌≤◌, List, Option, Some, None, length, set, refl, sym, ap, subst, ◌∙◌, arith}
use Rattle.std.specs.List.{find, sum_by, slice_get}
use Rattle.std.specs.Option.{option_map_or, option_and_then}
use Rattle.generic_names.specs.Spelled.{Spelled}
use Rattle.generic_names.specs.Laws.{NotBoth, PassedOn}
use Rattle.racf_profiles.specs.declared.profiles.Profile.{Profile}
use Rattle.racf_profiles.specs.declared.class_rows.ClassRow.{ClassRow}
use Rattle.racf_profiles.specs.Lookup.{is_class, is_profile}
use Rattle.racf_profiles.specs.Edits.{put_profile, drop_row, at_class, with_profile, without_profile}
use Rattle.std.specs.Prelude.{IfSome}
use Rattle.racf_profiles.specs.LawfulProfiles.{AreClasses, AreProfiles, kind_in}
use Rattle.racf_profiles.specs.Limits.{most_profiles, most_class_profiles, most_entries_in_all}
use Rattle.class_profiles.specs.Table.{CanPut}
use Rattle.class_profiles.specs.Classes.{ClassWithRoom, ClassList, profile_in, IsRoomFor, CanPutIn}
use Rattle.racf_profiles.specs.Counts.{profile_count, entry_count, entries_in}
use Rattle.racf_profiles.proofs.EditLaws.{at_class-absent}
use Rattle.class_profiles.specs.Summed.{rows_in}
use Rattle.class_profiles.proofs.Counts.{sum-put, sum-drop, length-put, length-drop, sum-at_class, found-le}
use Rattle.racf_profiles.proofs.Places.{IsAt}
use Rattle.class_profiles.proofs.Places.{of_name, spares, found-at, name-at, room-at, set-at, lawful-found, lawful-found_by, lawful-at_class}

-- any weight of profiles that a put and a drop change by the profile's own
module _ (m : List Profile → ℕ) (w : Profile → ℕ) (drops : (n : Spelled) (ps : List Profile) → m (drop_row (is_profile n) ps) + option_map_or w (find (is_profile n) ps) 0 ≡ m ps) where
  abbrev total : List ClassRow → ℕ
  total classes = sum_by (λ (class : ClassRow). m class.profiles) classes

  -- what is there weighs no more than all
  pub part-le : (name : List ℕ) (n : Spelled) (classes : List ClassRow) → option_map_or w (profile_in name n classes) 0 ≤ sum_by (λ (class : ClassRow). m class.profiles) classes
  part-le name n classes = by (find (is_class name) classes) refl
    where
      by : (o : Option ClassRow) → find (is_class name) classes ≡ o → option_map_or w (option_and_then (λ (row : ClassRow). find (is_profile n) row.profiles) o) 0 ≤ sum_by (λ (class : ClassRow). m class.profiles) classes
      by None found = omega arith
      by (Some row) found = omega (arith, drops n row.profiles, found-le (is_class name) (λ (class : ClassRow). m class.profiles) classes row found)

  module _ (name : List ℕ) (n : Spelled) (row : ClassRow) (classes : List ClassRow) (found : find (is_class name) classes ≡ Some row) (count part : ℕ)
      (counted : count ≡ sum_by (λ (class : ClassRow). m class.profiles) classes) (parted : part ≡ option_map_or w (profile_in name n classes) 0) where
    part-is : part ≡ option_map_or w (find (is_profile n) row.profiles) 0
    part-is = parted ∙ ap (λ (o : Option ClassRow). option_map_or w (option_and_then (λ (r : ClassRow). find (is_profile n) r.profiles) o) 0) found

    pub total-drop : count - part ≡ sum_by (λ (class : ClassRow). m class.profiles) (at_class name (without_profile n) classes)
    total-drop =
        let step : m (drop_row (is_profile n) row.profiles) + part ≡ m row.profiles + 0 = omega (arith, part-is, drops n row.profiles) in
        omega (arith, counted, sum-at_class (λ (class : ClassRow). m class.profiles) (without_profile n) name part 0 classes row found step)

    pub total-put : (p : Profile) (more : ℕ) → m (put_profile p row.profiles) + option_map_or w (find (is_profile n) row.profiles) 0 ≡ m row.profiles + more
        → count - part + more ≡ sum_by (λ (class : ClassRow). m class.profiles) (at_class name (with_profile p) classes)
    total-put p more put =
        let step : m (put_profile p row.profiles) + part ≡ m row.profiles + more = omega (arith, part-is, put) in
        omega (arith, counted, parted, part-le name n classes, sum-at_class (λ (class : ClassRow). m class.profiles) (with_profile p) name part more classes row found step)

pub profiles-le : (name : List ℕ) (n : Spelled) (classes : List ClassRow) → option_map_or (λ (p : Profile). 1) (profile_in name n classes) 0 ≤ profile_count classes
profiles-le = part-le (λ (ps : List Profile). length ps) (λ (p : Profile). 1) length-drop

pub entries-le : (name : List ℕ) (n : Spelled) (classes : List ClassRow) → option_map_or entries_in (profile_in name n classes) 0 ≤ entry_count classes
entries-le = part-le (sum_by entries_in) entries_in (λ n ps. sum-drop n entries_in ps)

-- what a profile needs to be put is what its class's table asks
pub can-put : {classes_more : ℕ} (name : List ℕ) (items : List ClassWithRoom) (k : ℕ) (c : ClassWithRoom) (p : Profile) → IsAt (of_name name) items k → slice_get items k ≡ Some c
    → CanPutIn (record { classes = rows_in items; spare = spares items; more_classes = classes_more }) name p → CanPut (record { kind = kind_in c.row.name; profiles = c.row.profiles; spare = c.spare }) p
can-put name items k c p at got can =
    let found = found-at name items k c at got in
    record {
      kind = can.kind ∙ ap kind_in (sym (name-at name items k c at got));
      room = λ absent. omega (arith, room-at name items k c at got, can.room (ap (λ (o : Option ClassRow). option_and_then (λ (r : ClassRow). find (is_profile p.name) r.profiles) o) found ∙ absent));
      few = few (find (is_class name) (rows_in items)) found can.few_in_class;
    }
  where
    few : (o : Option ClassRow) → o ≡ Some c.row → IfSome o (λ (row : ClassRow). length (put_profile p row.profiles) ≤ most_class_profiles) → length (put_profile p c.row.profiles) ≤ most_class_profiles
    few None is holds = cc
    few (Some row) is holds = let same : row ≡ c.row = cc in subst (λ (r : ClassRow). length (put_profile p r.profiles) ≤ most_class_profiles) same holds

-- a profile that can be put, and the class at the place
module _ {classes_more : ℕ} (not_both : NotBoth) (passed_on : PassedOn) (name : List ℕ) (items : List ClassWithRoom) (k : ℕ) (c : ClassWithRoom) (p : Profile) (at : IsAt (of_name name) items k) (got : slice_get items k ≡ Some c)
    (lawful : AreClasses (rows_in items)) (can : CanPutIn (record { classes = rows_in items; spare = spares items; more_classes = classes_more }) name p) where
  found : find (is_class name) (rows_in items) ≡ Some c.row
  found = found-at name items k c at got

  kind : p.name.kind ≡ kind_in c.row.name
  kind = can.kind ∙ ap kind_in (sym (name-at name items k c at got))

  profiles : AreProfiles (kind_in c.row.name) c.row.profiles
  profiles = lawful-found name c.row (rows_in items) found lawful

  module _ (count part : ℕ) (counted : count ≡ profile_count (rows_in items)) (parted : part ≡ option_map_or (λ (q : Profile). 1) (profile_in name p.name (rows_in items)) 0) where
    pub put-count : count - part + 1 ≡ profile_count (at_class name (with_profile p) (rows_in items))
    put-count = total-put (λ (ps : List Profile). length ps) (λ (q : Profile). 1) length-drop name p.name c.row (rows_in items) found count part counted parted p 1
        (length-put not_both passed_on (kind_in c.row.name) p kind c.row.profiles profiles.named profiles.ordered)

  module _ (count part : ℕ) (counted : count ≡ entry_count (rows_in items)) (parted : part ≡ option_map_or entries_in (profile_in name p.name (rows_in items)) 0) where
    pub put-entries : count - part + entries_in p ≡ entry_count (at_class name (with_profile p) (rows_in items))
    put-entries = total-put (sum_by entries_in) entries_in (λ n ps. sum-drop n entries_in ps) name p.name c.row (rows_in items) found count part counted parted p (entries_in p)
        (sum-put not_both passed_on (kind_in c.row.name) p kind entries_in c.row.profiles profiles.named profiles.ordered)

    pub put-few : entries_in p ≤ most_entries_in_all
    put-few = omega (arith, put-entries, can.few_entries)

  module _ (y : ClassWithRoom) (row : y.row ≡ with_profile p c.row) (holds : AreProfiles (kind_in c.row.name) y.row.profiles) where
    pub put-rows : rows_in (set items k y) ≡ at_class name (with_profile p) (rows_in items)
    put-rows = set-at name (with_profile p) items k c y at got row

    pub put-lawful : AreClasses (rows_in (set items k y))
    put-lawful = subst AreClasses (sym put-rows) (lawful-at_class name (with_profile p) (λ r. refl) c.row (rows_in items) found (subst (λ (r : ClassRow). AreProfiles (kind_in c.row.name) r.profiles) row holds) lawful)

    module _ (count part one entries entries_part more : ℕ) (counted : count ≡ profile_count (rows_in items)) (parted : part ≡ option_map_or (λ (q : Profile). 1) (profile_in name p.name (rows_in items)) 0) (is_one : one ≡ 1)
        (entries_counted : entries ≡ entry_count (rows_in items)) (entries_parted : entries_part ≡ option_map_or entries_in (profile_in name p.name (rows_in items)) 0) (is_more : more ≡ entries_in p) where
      pub put-counted : count - part + one ≡ profile_count (rows_in (set items k y))
      put-counted = ap (λ n. count - part + n) is_one ∙ put-count count part counted parted ∙ ap profile_count (sym put-rows)

      pub put-entries_counted : entries - entries_part + more ≡ entry_count (rows_in (set items k y))
      put-entries_counted = ap (λ n. entries - entries_part + n) is_more ∙ put-entries entries entries_part entries_counted entries_parted ∙ ap entry_count (sym put-rows)

      pub put-few_profiles : count - part + one ≤ most_profiles
      put-few_profiles = omega (arith, is_one, put-count count part counted parted, can.few)

      pub put-few_entries : entries - entries_part + more ≤ most_entries_in_all
      put-few_entries = omega (arith, is_more, put-entries entries entries_part entries_counted entries_parted, can.few_entries)

-- a profile that is taken out, and the class at the place
module _ (name : List ℕ) (items : List ClassWithRoom) (k : ℕ) (c y : ClassWithRoom) (n : Spelled) (at : IsAt (of_name name) items k) (got : slice_get items k ≡ Some c) (lawful : AreClasses (rows_in items))
    (row : y.row ≡ without_profile n c.row) (holds : AreProfiles (kind_in c.row.name) y.row.profiles) where
  pub drop-rows : rows_in (set items k y) ≡ at_class name (without_profile n) (rows_in items)
  drop-rows = set-at name (without_profile n) items k c y at got row

  pub drop-lawful : AreClasses (rows_in (set items k y))
  drop-lawful = subst AreClasses (sym drop-rows)
      (lawful-at_class name (without_profile n) (λ r. refl) c.row (rows_in items) (found-at name items k c at got) (subst (λ (r : ClassRow). AreProfiles (kind_in c.row.name) r.profiles) row holds) lawful)

  pub drop-counted : (count part : ℕ) → count ≡ profile_count (rows_in items) → part ≡ option_map_or (λ (q : Profile). 1) (profile_in name n (rows_in items)) 0 → count - part ≡ profile_count (rows_in (set items k y))
  drop-counted count part counted parted =
      total-drop (λ (ps : List Profile). length ps) (λ (q : Profile). 1) length-drop name n c.row (rows_in items) (found-at name items k c at got) count part counted parted ∙ ap profile_count (sym drop-rows)

  pub drop-entries_counted : (count part : ℕ) → count ≡ entry_count (rows_in items) → part ≡ option_map_or entries_in (profile_in name n (rows_in items)) 0 → count - part ≡ entry_count (rows_in (set items k y))
  drop-entries_counted count part counted parted =
      total-drop (sum_by entries_in) entries_in (λ m ps. sum-drop m entries_in ps) name n c.row (rows_in items) (found-at name items k c at got) count part counted parted ∙ ap entry_count (sym drop-rows)

-- the same without places
module _ (m : List Profile → ℕ) (w : Profile → ℕ) (drops : (n : Spelled) (ps : List Profile) → m (drop_row (is_profile n) ps) + option_map_or w (find (is_profile n) ps) 0 ≡ m ps) where
  dropped : (name : List ℕ) (n : Spelled) (classes : List ClassRow)
      → sum_by (λ (class : ClassRow). m class.profiles) (at_class name (without_profile n) classes) + option_map_or w (profile_in name n classes) 0 ≡ sum_by (λ (class : ClassRow). m class.profiles) classes
  dropped name n classes = by (find (is_class name) classes) refl
    where
      by : (o : Option ClassRow) → find (is_class name) classes ≡ o
          → sum_by (λ (class : ClassRow). m class.profiles) (at_class name (without_profile n) classes) + option_map_or w (option_and_then (λ (row : ClassRow). find (is_profile n) row.profiles) o) 0 ≡ sum_by (λ (class : ClassRow). m class.profiles) classes
      by None absent =
          let same : sum_by (λ (class : ClassRow). m class.profiles) (at_class name (without_profile n) classes) ≡ sum_by (λ (class : ClassRow). m class.profiles) classes =
          ap (λ (cs : List ClassRow). sum_by (λ (class : ClassRow). m class.profiles) cs) (at_class-absent name (without_profile n) classes absent) in
          omega (arith, same)
      by (Some row) here =
          let step : m (drop_row (is_profile n) row.profiles) + option_map_or w (find (is_profile n) row.profiles) 0 ≡ m row.profiles + 0 = omega (arith, drops n row.profiles) in
          omega (arith, sum-at_class (λ (class : ClassRow). m class.profiles) (without_profile n) name (option_map_or w (find (is_profile n) row.profiles) 0) 0 classes row here step)

pub drop-profiles : (name : List ℕ) (n : Spelled) (classes : List ClassRow) → profile_count (at_class name (without_profile n) classes) + option_map_or (λ (p : Profile). 1) (profile_in name n classes) 0 ≡ profile_count classes
drop-profiles = dropped (λ (ps : List Profile). length ps) (λ (p : Profile). 1) length-drop

pub drop-entries_in : (name : List ℕ) (n : Spelled) (classes : List ClassRow) → entry_count (at_class name (without_profile n) classes) + option_map_or entries_in (profile_in name n classes) 0 ≡ entry_count classes
drop-entries_in = dropped (sum_by entries_in) entries_in (λ n ps. sum-drop n entries_in ps)

module _ (not_both : NotBoth) (passed_on : PassedOn) (name : List ℕ) (row : ClassRow) (p : Profile) (classes : List ClassRow) (lawful : AreClasses classes) (here : find (is_class name) classes ≡ Some row) (is : p.name.kind ≡ kind_in name) where
  pub put-profiles : profile_count (at_class name (with_profile p) classes) + option_map_or (λ (q : Profile). 1) (profile_in name p.name classes) 0 ≡ profile_count classes + 1
  put-profiles =
      let old = lawful-found_by name row classes here lawful in
      let part : option_map_or {U = ℕ} (λ (q : Profile). 1) (profile_in name p.name classes) 0 ≡ option_map_or (λ (q : Profile). 1) (find (is_profile p.name) row.profiles) 0 =
      ap {B = ℕ} (λ (o : Option ClassRow). option_map_or (λ (q : Profile). 1) (option_and_then (λ (r : ClassRow). find (is_profile p.name) r.profiles) o) 0) here in
      omega (
        arith,
        part,
        sum-at_class (λ (class : ClassRow). length class.profiles) (with_profile p) name (option_map_or (λ (q : Profile). 1) (find (is_profile p.name) row.profiles) 0) 1 classes row here
            (length-put not_both passed_on (kind_in name) p is row.profiles old.named old.ordered),
      )

  pub put-entries_in : entry_count (at_class name (with_profile p) classes) + option_map_or entries_in (profile_in name p.name classes) 0 ≡ entry_count classes + entries_in p
  put-entries_in =
      let old = lawful-found_by name row classes here lawful in
      let part : option_map_or entries_in (profile_in name p.name classes) 0 ≡ option_map_or entries_in (find (is_profile p.name) row.profiles) 0 =
      ap {B = ℕ} (λ (o : Option ClassRow). option_map_or entries_in (option_and_then (λ (r : ClassRow). find (is_profile p.name) r.profiles) o) 0) here in
      omega (
        arith,
        part,
        sum-at_class (λ (class : ClassRow). sum_by entries_in class.profiles) (with_profile p) name (option_map_or entries_in (find (is_profile p.name) row.profiles) 0) (entries_in p) classes row here
            (sum-put not_both passed_on (kind_in name) p is entries_in row.profiles old.named old.ordered),
      )

-- a change of a class that keeps its name and its profiles
module _ (name : List ℕ) (items : List ClassWithRoom) (k : ℕ) (c y : ClassWithRoom) (change : ClassRow → ClassRow) (at : IsAt (of_name name) items k) (got : slice_get items k ≡ Some c) (lawful : AreClasses (rows_in items))
    (row : y.row ≡ change c.row) (names : (r : ClassRow) → (change r).name ≡ r.name) (keeps : (r : ClassRow) → (change r).profiles ≡ r.profiles) where
  pub flag-rows : rows_in (set items k y) ≡ at_class name change (rows_in items)
  flag-rows = set-at name change items k c y at got row

  here : find (is_class name) (rows_in items) ≡ Some c.row
  here = found-at name items k c at got

  pub flag-lawful : AreClasses (rows_in (set items k y))
  flag-lawful = subst AreClasses (sym flag-rows)
      (lawful-at_class name change names c.row (rows_in items) here
      (subst (λ (ps : List Profile). AreProfiles (kind_in (change c.row).name) ps) (sym (keeps c.row))
      (subst (λ (n : List ℕ). AreProfiles (kind_in n) c.row.profiles) (sym (names c.row)) (lawful-found name c.row (rows_in items) here lawful))) lawful)

  pub flag-counted : profile_count (rows_in (set items k y)) ≡ profile_count (rows_in items)
  flag-counted =
      let step : length (change c.row).profiles + 0 ≡ length c.row.profiles + 0 = omega (arith, ap (λ (ps : List Profile). length ps) (keeps c.row)) in
      ap profile_count flag-rows ∙ omega (arith, sum-at_class (λ (class : ClassRow). length class.profiles) change name 0 0 (rows_in items) c.row here step)

  pub flag-entries_counted : entry_count (rows_in (set items k y)) ≡ entry_count (rows_in items)
  flag-entries_counted =
      let step : sum_by entries_in (change c.row).profiles + 0 ≡ sum_by entries_in c.row.profiles + 0 = omega (arith, ap (λ (ps : List Profile). sum_by entries_in ps) (keeps c.row)) in
      ap entry_count flag-rows ∙ omega (arith, sum-at_class (λ (class : ClassRow). sum_by entries_in class.profiles) change name 0 0 (rows_in items) c.row here step)

-- what is enough for a profile to be put
pub enough : NotBoth → PassedOn → (list : ClassList) (name : List ℕ) (row : ClassRow) (p : Profile) → AreClasses list.classes → profile_count list.classes ≤ most_profiles → find (is_class name) list.classes ≡ Some row → p.name.kind ≡ kind_in name
    → (profile_in name p.name list.classes ≡ None → IsRoomFor list name row) → entry_count list.classes + entries_in p ≤ most_entries_in_all + option_map_or entries_in (profile_in name p.name list.classes) 0 → CanPutIn list name p
enough not_both passed_on list name row p lawful few found is room few_entries = record {
  kind = is;
  room = λ absent. (room absent).room;
  few_in_class = subst (λ (o : Option ClassRow). IfSome o (λ (r : ClassRow). length (put_profile p r.profiles) ≤ most_class_profiles)) (sym found) (in_class (find (is_profile p.name) row.profiles) refl);
  few = in_all (profile_in name p.name list.classes) refl;
  few_entries = omega (arith, few_entries, put-entries_in not_both passed_on name row p list.classes lawful found is);
}
  where
    inside : profile_in name p.name list.classes ≡ find (is_profile p.name) row.profiles
    inside = ap (λ (o : Option ClassRow). option_and_then (λ (r : ClassRow). find (is_profile p.name) r.profiles) o) found

    in_class : (o : Option Profile) → find (is_profile p.name) row.profiles ≡ o → length (put_profile p row.profiles) ≤ most_class_profiles
    in_class o there =
        let old = lawful-found_by name row list.classes found lawful in
        let step = length-put not_both passed_on (kind_in name) p is row.profiles old.named old.ordered in
        by o there step old.few
      where
        by : (q : Option Profile) → find (is_profile p.name) row.profiles ≡ q → length (put_profile p row.profiles) + option_map_or (λ (x : Profile). 1) (find (is_profile p.name) row.profiles) 0 ≡ length row.profiles + 1
            → length row.profiles ≤ most_class_profiles → length (put_profile p row.profiles) ≤ most_class_profiles
        by None at step old = let most : length row.profiles < most_class_profiles = (room (inside ∙ at)).few_in_class in omega (arith, step, most)
        by (Some x) at step old =
            let one : option_map_or {U = ℕ} (λ (y : Profile). 1) (find (is_profile p.name) row.profiles) 0 ≡ 1 = ap {B = ℕ} (λ (q : Option Profile). option_map_or (λ (y : Profile). 1) q 0) at in omega (arith, step, one, old)

    in_all : (o : Option Profile) → profile_in name p.name list.classes ≡ o → profile_count (at_class name (with_profile p) list.classes) ≤ most_profiles
    in_all None at = let most : profile_count list.classes < most_profiles = (room at).few in omega (arith, most, put-profiles not_both passed_on name row p list.classes lawful found is)
    in_all (Some x) at =
        let one : option_map_or {U = ℕ} (λ (y : Profile). 1) (profile_in name p.name list.classes) 0 ≡ 1 = ap {B = ℕ} (λ (q : Option Profile). option_map_or (λ (y : Profile). 1) q 0) at in
        omega (arith, few, one, put-profiles not_both passed_on name row p list.classes lawful found is)
