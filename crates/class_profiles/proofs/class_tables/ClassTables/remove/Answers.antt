-- The class at the place loses the profile, and the counts its own.
use Rattle.std.proofs.Common.{◌≤◌, ◌∙◌, ℕ, sym, ap, subst, arith, set}
use Rattle.std.specs.List.{find}
use Rattle.std.specs.Option.{option_map_or}
use Rattle.racf_profiles.specs.declared.profiles.Profile.{Profile}
use Rattle.racf_profiles.specs.declared.class_rows.ClassRow.{ClassRow}
use Rattle.racf_profiles.specs.Lookup.{is_class}
use Rattle.racf_profiles.specs.Edits.{at_class, without_profile}
use Rattle.class_profiles.specs.Classes.{ClassList, profile_in, room_in, room_among}
use Rattle.racf_profiles.specs.Counts.{profile_count, entries_in}
use Rattle.racf_profiles.proofs.EditLaws.{at_class-absent}
use Rattle.class_profiles.specs.Summed.{rows_in}
use Rattle.class_profiles.proofs.Places.{spares, placed, unplaced, read-at, room-kept}
use Rattle.class_profiles.proofs.Changes.{drop-rows, drop-lawful, drop-counted, drop-entries_counted}
use Rattle.class_profiles.proofs.class_tables.ClassTables.remove.Goals as goal

pub returns-in_default-clause-classes : goal.returns-in_default-clause-classes
returns-in_default-clause-classes c =
    let absent = ap (λ (v : ClassList). find (is_class c.args.class) v.classes) (sym c.self.view_is) ∙ unplaced c.args.class c.self.inside.classes.items c.deref.result.now c.deref.ensures.value c.in_default.ensures in
    sym (at_class-absent c.args.class (without_profile c.args.name.now) c.args.self.now.classes absent)

pub overflow_sub-self : goal.overflow_sub-self
overflow_sub-self c = omega (arith, c.share_in-gone.ensures.few, c.self.invariant.counted, ap (λ (v : ClassList). profile_count v.classes) c.self.view_is)

pub invariant_of-self : goal.invariant_of-self
invariant_of-self c =
    let items = c.self.inside.classes.items in
    let class = c.args.class in
    let k = c.in-Some.place in
    let old = c.index_mut.result.now in
    let new = c.remove.new.self in
    let n = c.args.name.now in
    let at = placed class items c.deref.result.now k c.deref.ensures.value c.in-Some.ensures in
    let got = read-at class items k old at c.index_mut.ensures.value in
    let parted = c.share_in-gone.ensures.profiles ∙ ap {B = ℕ} (λ (v : ClassList). option_map_or (λ (q : Profile). 1) (profile_in class n v.classes) 0) (sym c.self.view_is) in
    let entries_parted = c.share_in-gone.ensures.entries ∙ ap {B = ℕ} (λ (v : ClassList). option_map_or entries_in (profile_in class n v.classes) 0) (sym c.self.view_is) in
    record {
      lawful = drop-lawful class items k old new n at got c.self.invariant.lawful c.remove.ensures.row c.remove.ensures.lawful;
      counted = drop-counted class items k old new n at got c.self.invariant.lawful c.remove.ensures.row c.remove.ensures.lawful c.self.inside.count c.share_in-gone.result.profiles c.self.invariant.counted parted;
      entries_counted = drop-entries_counted class items k old new n at got c.self.invariant.lawful c.remove.ensures.row c.remove.ensures.lawful c.self.inside.entries c.share_in-gone.result.entries c.self.invariant.entries_counted entries_parted;
      few = omega (arith, c.self.invariant.few);
      few_entries = omega (arith, c.self.invariant.few_entries);
    }

pub returns-clause-classes : goal.returns-clause-classes
returns-clause-classes c =
    let items = c.self.inside.classes.items in
    let class = c.args.class in
    let k = c.in-Some.place in
    let old = c.index_mut.result.now in
    let at = placed class items c.deref.result.now k c.deref.ensures.value c.in-Some.ensures in
    let got = read-at class items k old at c.index_mut.ensures.value in
    drop-rows class items k old c.remove.new.self c.args.name.now at got c.self.invariant.lawful c.remove.ensures.row c.remove.ensures.lawful
    ∙ ap (λ (v : ClassList). at_class class (without_profile c.args.name.now) v.classes) c.self.view_is

pub returns-clause-kept : goal.returns-clause-kept
returns-clause-kept c =
    let items = c.self.inside.classes.items in
    let class = c.args.class in
    let k = c.in-Some.place in
    let old = c.index_mut.result.now in
    let at = placed class items c.deref.result.now k c.deref.ensures.value c.in-Some.ensures in
    let got = read-at class items k old at c.index_mut.ensures.value in
    λ other. subst (λ (v : ClassList). room_in other v ≤ room_among other (rows_in (set items k c.remove.new.self)) (spares (set items k c.remove.new.self))) c.self.view_is
    (room-kept other items k old c.remove.new.self got (ap (λ (r : ClassRow). r.name) c.remove.ensures.row) c.remove.ensures.spare)
