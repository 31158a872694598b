-- The rows stay, and the class at the place has more room.
use Rattle.std.proofs.Common.{◌≤◌, ◌∙◌, ℕ, sym, ap, subst, set}
use Rattle.std.specs.List.{find}
use Rattle.racf_profiles.specs.declared.class_rows.ClassRow.{ClassRow}
use Rattle.racf_profiles.specs.Lookup.{is_class}
use Rattle.racf_profiles.specs.LawfulProfiles.{AreClasses}
use Rattle.class_profiles.specs.Classes.{ClassList, room_in, room_among}
use Rattle.racf_profiles.specs.Counts.{profile_count, entry_count}
use Rattle.class_profiles.specs.Summed.{rows_in}
use Rattle.class_profiles.proofs.Places.{spares, placed, unplaced, read-at, rows-kept, room-set, room-kept, on_ok, none-some}
use Rattle.class_profiles.proofs.class_tables.ClassTables.reserve.Goals as goal

pub invariant_of-self : goal.invariant_of-self
invariant_of-self c =
    let items = c.self.inside.classes.items in
    let at = placed c.args.class items c.deref.result.now c.in-Some.place c.deref.ensures.value c.in-Some.ensures in
    let got = read-at c.args.class items c.in-Some.place c.index_mut.result.now at c.index_mut.ensures.value in
    let same = rows-kept items c.in-Some.place c.index_mut.result.now c.reserve.new.self got c.reserve.ensures.row in
    record {
      lawful = subst AreClasses (sym same) c.self.invariant.lawful;
      counted = c.self.invariant.counted ∙ ap profile_count (sym same);
      entries_counted = c.self.invariant.entries_counted ∙ ap entry_count (sym same);
      few = c.self.invariant.few;
      few_entries = c.self.invariant.few_entries;
    }

pub returns-in-Some-clause-classes : goal.returns-in-Some-clause-classes
returns-in-Some-clause-classes c =
    let items = c.self.inside.classes.items in
    let at = placed c.args.class items c.deref.result.now c.in-Some.place c.deref.ensures.value c.in-Some.ensures in
    let got = read-at c.args.class items c.in-Some.place c.index_mut.result.now at c.index_mut.ensures.value in
    rows-kept items c.in-Some.place c.index_mut.result.now c.reserve.new.self got c.reserve.ensures.row ∙ ap (λ (v : ClassList). v.classes) c.self.view_is

pub returns-in-Some-clause-room : goal.returns-in-Some-clause-room
returns-in-Some-clause-room c =
    let items = c.self.inside.classes.items in
    let at = placed c.args.class items c.deref.result.now c.in-Some.place c.deref.ensures.value c.in-Some.ensures in
    let got = read-at c.args.class items c.in-Some.place c.index_mut.result.now at c.index_mut.ensures.value in
    let room = room-set c.args.class items c.in-Some.place c.index_mut.result.now c.reserve.new.self at got (ap (λ (r : ClassRow). r.name) c.reserve.ensures.row) in
    on_ok c.reserve.result c.reserve.ensures.spare (λ more _. subst (λ (n : ℕ). c.args.more ≤ n) (sym room) more)

pub returns-in-Some-clause-kept : goal.returns-in-Some-clause-kept
returns-in-Some-clause-kept c =
    let items = c.self.inside.classes.items in
    let at = placed c.args.class items c.deref.result.now c.in-Some.place c.deref.ensures.value c.in-Some.ensures in
    let got = read-at c.args.class items c.in-Some.place c.index_mut.result.now at c.index_mut.ensures.value in
    λ other. subst (λ (v : ClassList). room_in other v ≤ room_among other (rows_in (set items c.in-Some.place c.reserve.new.self)) (spares (set items c.in-Some.place c.reserve.new.self))) c.self.view_is
    (room-kept other items c.in-Some.place c.index_mut.result.now c.reserve.new.self got (ap (λ (r : ClassRow). r.name) c.reserve.ensures.row) c.reserve.ensures.kept)

pub returns-in-None-clause-room : goal.returns-in-None-clause-room
returns-in-None-clause-room c =
    λ there. absurd (none-some (ap (λ (v : ClassList). find (is_class c.args.class) v.classes) (sym c.self.view_is) ∙ unplaced c.args.class c.self.inside.classes.items c.deref.result.now c.deref.ensures.value c.in-None.ensures) there)
