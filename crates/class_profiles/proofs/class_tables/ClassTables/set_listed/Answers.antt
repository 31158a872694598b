-- The class at the place changes, and keeps its profiles.
use Rattle.std.proofs.Common.{◌≤◌, ◌∙◌, refl, sym, ap, subst, arith, set}
use Rattle.std.specs.List.{find}
use Rattle.racf_profiles.specs.declared.class_rows.ClassRow.{ClassRow}
use Rattle.racf_profiles.specs.Lookup.{is_class}
use Rattle.racf_profiles.specs.Edits.{at_class, with_listed}
use Rattle.racf_profiles.proofs.EditLaws.{at_class-absent}
use Rattle.class_profiles.specs.Classes.{ClassList, room_in, room_among}
use Rattle.class_profiles.specs.Summed.{rows_in}
use Rattle.class_profiles.proofs.Places.{spares, placed, unplaced, read-at, room-kept}
use Rattle.class_profiles.proofs.Changes.{flag-rows, flag-lawful, flag-counted, flag-entries_counted}
use Rattle.class_profiles.proofs.class_tables.ClassTables.set_listed.Goals as goal

pub returns-in_default-clause-classes : goal.returns-in_default-clause-classes
returns-in_default-clause-classes c =
    let absent = ap (λ (v : ClassList). find (is_class c.args.class) v.classes) (sym c.self.view_is) ∙ unplaced c.args.class c.self.inside.classes.items c.deref.result.now c.deref.ensures.value c.in_default.ensures in
    sym (at_class-absent c.args.class (with_listed c.args.listed) c.args.self.now.classes absent)

pub invariant_of-self : goal.invariant_of-self
invariant_of-self c =
    let items = c.self.inside.classes.items in
    let class = c.args.class in
    let k = c.in-Some.place in
    let old = c.index_mut.result.now in
    let at = placed class items c.deref.result.now k c.deref.ensures.value c.in-Some.ensures in
    let got = read-at class items k old at c.index_mut.ensures.value in
    let change = with_listed c.args.listed in
    record {
      lawful = flag-lawful class items k old c.set_listed.new.self change at got c.self.invariant.lawful c.set_listed.ensures.row (λ row. refl) (λ row. refl);
      counted = c.self.invariant.counted ∙ sym (flag-counted class items k old c.set_listed.new.self change at got c.self.invariant.lawful c.set_listed.ensures.row (λ row. refl) (λ row. refl));
      entries_counted = c.self.invariant.entries_counted ∙ sym (flag-entries_counted class items k old c.set_listed.new.self change at got c.self.invariant.lawful c.set_listed.ensures.row (λ row. refl) (λ row. refl));
      few = c.self.invariant.few;
      few_entries = c.self.invariant.few_entries;
    }

pub returns-clause-classes : goal.returns-clause-classes
returns-clause-classes c =
    let items = c.self.inside.classes.items in
    let class = c.args.class in
    let k = c.in-Some.place in
    let old = c.index_mut.result.now in
    let at = placed class items c.deref.result.now k c.deref.ensures.value c.in-Some.ensures in
    let got = read-at class items k old at c.index_mut.ensures.value in
    let change = with_listed c.args.listed in
    flag-rows class items k old c.set_listed.new.self change at got c.self.invariant.lawful c.set_listed.ensures.row (λ row. refl) (λ row. refl)
    ∙ ap (λ (v : ClassList). at_class class change v.classes) c.self.view_is

pub returns-clause-kept : goal.returns-clause-kept
returns-clause-kept c =
    let items = c.self.inside.classes.items in
    let class = c.args.class in
    let k = c.in-Some.place in
    let old = c.index_mut.result.now in
    let at = placed class items c.deref.result.now k c.deref.ensures.value c.in-Some.ensures in
    let got = read-at class items k old at c.index_mut.ensures.value in
    let more : old.spare ≤ c.set_listed.new.self.spare = omega (arith, c.set_listed.ensures.spare) in
    λ other. subst (λ (v : ClassList). room_in other v ≤ room_among other (rows_in (set items k c.set_listed.new.self)) (spares (set items k c.set_listed.new.self))) c.self.view_is
    (room-kept other items k old c.set_listed.new.self got (ap (λ (r : ClassRow). r.name) c.set_listed.ensures.row) more)
