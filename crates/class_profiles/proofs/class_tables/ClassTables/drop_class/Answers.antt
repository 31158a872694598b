-- The class at the place goes, and no other has its name.
use Rattle.std.proofs.Common.{◌≡◌, ◌∙◌, List, [], length, sym, ap, subst}
use Rattle.std.specs.List.{find, sum_by}
use Rattle.racf_profiles.specs.declared.profiles.Profile.{Profile}
use Rattle.racf_profiles.specs.declared.class_rows.ClassRow.{ClassRow}
use Rattle.racf_profiles.specs.Counts.{profile_count, entry_count, entries_in}
use Rattle.racf_profiles.specs.Lookup.{is_class}
use Rattle.racf_profiles.specs.Edits.{without_class}
use Rattle.racf_profiles.specs.LawfulProfiles.{AreClasses}
use Rattle.racf_profiles.proofs.EditLaws.{without_class-absent}
use Rattle.class_profiles.specs.Classes.{ClassWithRoom, ClassList, room_in, room_among}
use Rattle.class_profiles.specs.Summed.{rows_in}
use Rattle.class_profiles.proofs.Places.{spares, placed, unplaced, read-at, found-at}
use Rattle.class_profiles.proofs.Dynamic.{rows-less, room-less, counted-less, lawful-less, if-some}
use Rattle.class_profiles.proofs.class_tables.ClassTables.drop_class.Goals as goal

pub returns-in_default-clause-classes : goal.returns-in_default-clause-classes
returns-in_default-clause-classes c =
    let absent = ap (λ (v : ClassList). find (is_class c.args.class) v.classes) (sym c.self.view_is) ∙ unplaced c.args.class c.self.inside.classes.items c.deref.result.now c.deref.ensures.value c.in_default.ensures in
    sym (without_class-absent c.args.class c.args.self.now.classes absent)

pub invariant_of-self : goal.invariant_of-self
invariant_of-self c =
    let items = c.self.inside.classes.items in
    let class = c.args.class in
    let k = c.in-Some.place in
    let gone = c.remove-gone.result in
    let at = placed class items c.deref.result.now k c.deref.ensures.value c.in-Some.ensures in
    let got = read-at class items k gone at c.remove-gone.ensures.value in
    let less = c.remove-gone.ensures.items in
    let rows = rows-less class items k at c.self.invariant.lawful.names.distinct in
    let empty : gone.row.profiles ≡ [] =
    if-some gone.row (λ (row : ClassRow). row.profiles ≡ []) (ap (λ (v : ClassList). find (is_class class) v.classes) (sym c.self.view_is) ∙ found-at class items k gone at got) c.requires.empty in
    record {
      lawful = subst AreClasses (sym (ap rows_in less ∙ rows)) (lawful-less class (rows_in items) c.requires.dynamic c.self.invariant.lawful);
      counted = c.self.invariant.counted ∙ sym (ap (λ (cs : List ClassWithRoom). profile_count (rows_in cs)) less ∙ counted-less (λ (ps : List Profile). length ps) class items k gone at got (ap (λ (ps : List Profile). length ps) empty));
      entries_counted = c.self.invariant.entries_counted ∙ sym (ap (λ (cs : List ClassWithRoom). entry_count (rows_in cs)) less ∙ counted-less (sum_by entries_in) class items k gone at got (ap (sum_by entries_in) empty));
      few = c.self.invariant.few;
      few_entries = c.self.invariant.few_entries;
    }

pub returns-clause-classes : goal.returns-clause-classes
returns-clause-classes c =
    let items = c.self.inside.classes.items in
    let class = c.args.class in
    let at = placed class items c.deref.result.now c.in-Some.place c.deref.ensures.value c.in-Some.ensures in
    ap rows_in c.remove-gone.ensures.items ∙ rows-less class items c.in-Some.place at c.self.invariant.lawful.names.distinct ∙ ap (λ (v : ClassList). without_class class v.classes) c.self.view_is

pub returns-clause-others : goal.returns-clause-others
returns-clause-others c =
    let items = c.self.inside.classes.items in
    let class = c.args.class in
    let at = placed class items c.deref.result.now c.in-Some.place c.deref.ensures.value c.in-Some.ensures in
    λ other differs. ap (λ (cs : List ClassWithRoom). room_among other (rows_in cs) (spares cs)) c.remove-gone.ensures.items
    ∙ room-less class other items c.in-Some.place at differs ∙ ap (λ (v : ClassList). room_in other v) c.self.view_is
