-- The class at the place gets the profile, and the counts change by its own.
use Rattle.std.proofs.Common.{◌≡◌, ◌∙◌, ℕ, ◌+◌, ◌≤◌, Bool, true, false, cond, List, Option, Some, refl, sym, ap, subst, arith}
use Rattle.std.specs.List.{find, slice_get}
use Rattle.std.specs.Option.{option_map_or, option_and_then}
use Rattle.std.specs.Str.{bytes_eq}
use Rattle.racf_profiles.specs.declared.profiles.Profile.{Profile}
use Rattle.racf_profiles.specs.declared.class_rows.ClassRow.{ClassRow}
use Rattle.racf_profiles.specs.Lookup.{is_class, is_profile}
use Rattle.racf_profiles.specs.Edits.{at_class, with_profile}
use Rattle.class_profiles.specs.Classes.{ClassWithRoom, ClassList, profile_in, room_in, CanPutIn}
use Rattle.racf_profiles.specs.Counts.{entries_in}
use Rattle.class_profiles.specs.Summed.{rows_in}
use Rattle.racf_profiles.proofs.Places.{IsAt}
use Rattle.racf_profiles.proofs.EditLaws.{at_class-absent}
use Rattle.class_profiles.proofs.Places.{of_name, found-at, placed, unplaced, read-at, room-other, room-at, room-set, name-at, got-at}
use Rattle.class_profiles.proofs.Changes.{profiles-le, entries-le, can-put, put-few, put-rows, put-lawful, put-counted, put-entries_counted, put-few_profiles, put-few_entries}
use Rattle.class_profiles.proofs.class_tables.ClassTables.put.Goals as goal

at_most_one : (before after : ℕ) (b : Bool) → after + cond b 0 1 ≡ before → before ≤ after + 1
at_most_one before after true is = omega arith
at_most_one before after false is = omega arith

pub returns-in_default-clause-classes : goal.returns-in_default-clause-classes
returns-in_default-clause-classes c =
    let absent = ap (λ (v : ClassList). find (is_class c.args.class) v.classes) (sym c.self.view_is) ∙ unplaced c.args.class c.self.inside.classes.items c.deref.result.now c.deref.ensures.value c.in_default.ensures in
    sym (at_class-absent c.args.class (with_profile c.args.profile) c.args.self.now.classes absent)

pub share_of-after-requires : goal.share_of-after-requires
share_of-after-requires c =
    let law = c.order_is_total.ensures in
    let items = c.self.inside.classes.items in
    let class = c.args.class in
    let p = c.args.profile in
    let at = placed class items c.deref.result.now c.in-Some.place c.deref.ensures.value c.in-Some.ensures in
    let got = got-at class items c.in-Some.place at in
    let can = subst (λ (v : ClassList). CanPutIn v class p) (sym c.self.view_is) c.requires in
    put-few law.not_both law.passed_on class items c.in-Some.place got.0 p at got.1 c.self.invariant.lawful can c.self.inside.entries (option_map_or entries_in (profile_in class p.name (rows_in items)) 0) c.self.invariant.entries_counted refl

-- what was replaced is the profile of that name in the class
replaced_of : (name : List ℕ) (items : List ClassWithRoom) (k : ℕ) (c : ClassWithRoom) (p : Profile) (was : Option Profile) → IsAt (of_name name) items k → slice_get items k ≡ Some c
    → was ≡ find (is_profile p.name) c.row.profiles → was ≡ profile_in name p.name (rows_in items)
replaced_of name items k c p was at got is = is ∙ sym (ap (λ (o : Option ClassRow). option_and_then (λ (r : ClassRow). find (is_profile p.name) r.profiles) o) (found-at name items k c at got))

pub put-replaced-requires : goal.put-replaced-requires
put-replaced-requires c =
    let items = c.self.inside.classes.items in
    let at = placed c.args.class items c.deref.result.now c.in-Some.place c.deref.ensures.value c.in-Some.ensures in
    let got = read-at c.args.class items c.in-Some.place c.index_mut.result.now at c.index_mut.ensures.value in
    can-put c.args.class items c.in-Some.place c.index_mut.result.now c.args.profile at got (subst (λ (v : ClassList). CanPutIn v c.args.class c.args.profile) (sym c.self.view_is) c.requires)

pub share_of_any-before-requires : goal.share_of_any-before-requires
share_of_any-before-requires c =
    let items = c.self.inside.classes.items in
    let class = c.args.class in
    let p = c.args.profile in
    let k = c.in-Some.place in
    let old = c.index_mut.result.now in
    let at = placed class items c.deref.result.now k c.deref.ensures.value c.in-Some.ensures in
    let got = read-at class items k old at c.index_mut.ensures.value in
    let same = c.as_ref.ensures.value ∙ replaced_of class items k old p c.put-replaced.result at got c.put-replaced.ensures.replaced in
    let here = ap {B = ℕ} (λ (o : Option Profile). option_map_or entries_in o 0) same in
    let le = entries-le class p.name (rows_in items) in
    omega (arith, here, le, c.self.invariant.entries_counted, c.self.invariant.few_entries)

pub overflow_sub-self : goal.overflow_sub-self
overflow_sub-self c =
    let items = c.self.inside.classes.items in
    let class = c.args.class in
    let p = c.args.profile in
    let k = c.in-Some.place in
    let old = c.index_mut.result.now in
    let at = placed class items c.deref.result.now k c.deref.ensures.value c.in-Some.ensures in
    let got = read-at class items k old at c.index_mut.ensures.value in
    let same = c.as_ref.ensures.value ∙ replaced_of class items k old p c.put-replaced.result at got c.put-replaced.ensures.replaced in
    let here = ap {B = ℕ} (λ (o : Option Profile). option_map_or (λ (q : Profile). 1) o 0) same in
    let le = profiles-le class p.name (rows_in items) in
    omega (arith, c.share_of_any-before.ensures.profiles, here, le, c.self.invariant.counted)

pub overflow_sub-self-2 : goal.overflow_sub-self-2
overflow_sub-self-2 c =
    let items = c.self.inside.classes.items in
    let class = c.args.class in
    let p = c.args.profile in
    let k = c.in-Some.place in
    let old = c.index_mut.result.now in
    let at = placed class items c.deref.result.now k c.deref.ensures.value c.in-Some.ensures in
    let got = read-at class items k old at c.index_mut.ensures.value in
    let same = c.as_ref.ensures.value ∙ replaced_of class items k old p c.put-replaced.result at got c.put-replaced.ensures.replaced in
    let here = ap {B = ℕ} (λ (o : Option Profile). option_map_or entries_in o 0) same in
    let le = entries-le class p.name (rows_in items) in
    omega (arith, c.share_of_any-before.ensures.entries, here, le, c.self.invariant.entries_counted)

pub invariant_of-self : goal.invariant_of-self
invariant_of-self c =
    let law = c.order_is_total.ensures in
    let items = c.self.inside.classes.items in
    let class = c.args.class in
    let k = c.in-Some.place in
    let old = c.index_mut.result.now in
    let new = c.put-replaced.new.self in
    let p = c.args.profile in
    let at = placed class items c.deref.result.now k c.deref.ensures.value c.in-Some.ensures in
    let got = read-at class items k old at c.index_mut.ensures.value in
    let can = subst (λ (v : ClassList). CanPutIn v class p) (sym c.self.view_is) c.requires in
    let same = c.as_ref.ensures.value ∙ replaced_of class items k old p c.put-replaced.result at got c.put-replaced.ensures.replaced in
    let parted = c.share_of_any-before.ensures.profiles ∙ ap {B = ℕ} (λ (o : Option Profile). option_map_or (λ (q : Profile). 1) o 0) same in
    let entries_parted = c.share_of_any-before.ensures.entries ∙ ap {B = ℕ} (λ (o : Option Profile). option_map_or entries_in o 0) same in
    record {
      lawful = put-lawful law.not_both law.passed_on class items k old p at got c.self.invariant.lawful can new c.put-replaced.ensures.row c.put-replaced.ensures.lawful;
      counted = put-counted law.not_both law.passed_on class items k old p at got c.self.invariant.lawful can new c.put-replaced.ensures.row c.put-replaced.ensures.lawful c.self.inside.count c.share_of_any-before.result.profiles c.share_of-after.result.profiles c.self.inside.entries c.share_of_any-before.result.entries c.share_of-after.result.entries c.self.invariant.counted parted c.share_of-after.ensures.profiles c.self.invariant.entries_counted entries_parted c.share_of-after.ensures.entries;
      entries_counted = put-entries_counted law.not_both law.passed_on class items k old p at got c.self.invariant.lawful can new c.put-replaced.ensures.row c.put-replaced.ensures.lawful c.self.inside.count c.share_of_any-before.result.profiles c.share_of-after.result.profiles c.self.inside.entries c.share_of_any-before.result.entries c.share_of-after.result.entries c.self.invariant.counted parted c.share_of-after.ensures.profiles c.self.invariant.entries_counted entries_parted c.share_of-after.ensures.entries;
      few = put-few_profiles law.not_both law.passed_on class items k old p at got c.self.invariant.lawful can new c.put-replaced.ensures.row c.put-replaced.ensures.lawful c.self.inside.count c.share_of_any-before.result.profiles c.share_of-after.result.profiles c.self.inside.entries c.share_of_any-before.result.entries c.share_of-after.result.entries c.self.invariant.counted parted c.share_of-after.ensures.profiles c.self.invariant.entries_counted entries_parted c.share_of-after.ensures.entries;
      few_entries = put-few_entries law.not_both law.passed_on class items k old p at got c.self.invariant.lawful can new c.put-replaced.ensures.row c.put-replaced.ensures.lawful c.self.inside.count c.share_of_any-before.result.profiles c.share_of-after.result.profiles c.self.inside.entries c.share_of_any-before.result.entries c.share_of-after.result.entries c.self.invariant.counted parted c.share_of-after.ensures.profiles c.self.invariant.entries_counted entries_parted c.share_of-after.ensures.entries;
    }

pub returns-clause-classes : goal.returns-clause-classes
returns-clause-classes c =
    let law = c.order_is_total.ensures in
    let items = c.self.inside.classes.items in
    let class = c.args.class in
    let k = c.in-Some.place in
    let old = c.index_mut.result.now in
    let at = placed class items c.deref.result.now k c.deref.ensures.value c.in-Some.ensures in
    let got = read-at class items k old at c.index_mut.ensures.value in
    let can = subst (λ (v : ClassList). CanPutIn v class c.args.profile) (sym c.self.view_is) c.requires in
    put-rows law.not_both law.passed_on class items k old c.args.profile at got c.self.invariant.lawful can c.put-replaced.new.self c.put-replaced.ensures.row c.put-replaced.ensures.lawful
    ∙ ap (λ (v : ClassList). at_class class (with_profile c.args.profile) v.classes) c.self.view_is

pub returns-clause-others : goal.returns-clause-others
returns-clause-others c =
    let items = c.self.inside.classes.items in
    let class = c.args.class in
    let k = c.in-Some.place in
    let old = c.index_mut.result.now in
    let at = placed class items c.deref.result.now k c.deref.ensures.value c.in-Some.ensures in
    let got = read-at class items k old at c.index_mut.ensures.value in
    λ other differs. room-other other items k old c.put-replaced.new.self got (ap (λ (r : ClassRow). r.name) c.put-replaced.ensures.row) (ap (λ n. bytes_eq n other) (name-at class items k old at got) ∙ differs)
    ∙ ap (λ (v : ClassList). room_in other v) c.self.view_is

pub returns-in_default-clause-own : goal.returns-in_default-clause-own
returns-in_default-clause-own c = omega arith

-- One less where the profile is new.
pub returns-clause-own : goal.returns-clause-own
returns-clause-own c =
    let items = c.self.inside.classes.items in
    let class = c.args.class in
    let k = c.in-Some.place in
    let old = c.index_mut.result.now in
    let new = c.put-replaced.new.self in
    let at = placed class items c.deref.result.now k c.deref.ensures.value c.in-Some.ensures in
    let got = read-at class items k old at c.index_mut.ensures.value in
    let before : room_in class c.args.self.now ≡ old.spare = ap (λ (v : ClassList). room_in class v) (sym c.self.view_is) ∙ room-at class items k old at got in
    let after = room-set class items k old new at got (ap (λ (r : ClassRow). r.name) c.put-replaced.ensures.row) in
    let less = at_most_one old.spare new.spare _ c.put-replaced.ensures.spare in
    omega (arith, before, after, less)
