-- One profile more than before, at most.
use Rattle.std.proofs.Common.{◌≡◌, ◌∙◌, ◌+◌, ◌<◌, ◌≤◌, Option, Some, refl, sym, ap, subst, arith, length}
use Rattle.std.specs.Prelude.{IsSome}
use Rattle.std.specs.List.{find}
use Rattle.std.specs.Option.{option_map_or}
use Rattle.generic_names.specs.Spelled.{Spelled}
use Rattle.racf_profiles.specs.declared.class_rows.ClassRow.{ClassRow}
use Rattle.racf_profiles.specs.Lookup.{is_class}
use Rattle.racf_profiles.specs.LawfulProfiles.{AreClasses, kind_in}
use Rattle.racf_profiles.specs.Limits.{most_profiles, most_class_profiles, most_entries_in_all}
use Rattle.class_profiles.specs.Classes.{profile_in}
use Rattle.racf_profiles.specs.Counts.{profile_count, entry_count, entries_in}
use Rattle.racf_profiles.proofs.States.{same_class}
use Rattle.row_tests.proofs.class_tests.put_in.Goals as goal

pub put-requires : goal.put-requires
put-requires c =
    let old = c.args.tables.now in
    let new = c.reserve.new.self in
    let class = c.args.class in
    let p = c.in-Ok-profile.profile in
    let row : ClassRow = c.in-Some.row.now.row in
    let same = c.reserve.ensures.classes in
    let found : find (is_class class) old.classes ≡ Some row = sym c.in-Some.ensures in
    let kind = ap (λ (n : Spelled). n.kind) c.in-Ok-profile.ensures.name ∙ c.in-Ok.ensures.kind ∙ c.kind.ensures ∙ c.profiles.ensures.kind ∙ ap kind_in (same_class class row old.classes found) in
    let there : IsSome (find (is_class class) old.classes) = subst (λ (o : Option ClassRow). IsSome o) (sym found) refl in
    let in_class : length row.profiles < most_class_profiles = omega (arith, c.len.ensures.count, ap length c.profiles-2.ensures.profiles) in
    let in_all : profile_count new.classes < most_profiles = omega (arith, c.count.ensures.count, ap profile_count same) in
    let fits : entry_count new.classes + entries_in p ≤ most_entries_in_all + option_map_or entries_in (profile_in class p.name new.classes) 0 =
    omega (arith, c.entries.ensures.count, ap entry_count same, c.in-Ok-profile.ensures.one) in
    c.counts_are_enough.ensures new class row p (subst AreClasses (sym same) c.count.ensures.lawful) (omega (arith, in_all)) (ap (find (is_class class)) same ∙ found) kind
    (λ _. record { room = c.in-Ok-reserve.ensures.room there; few_in_class = in_class; few = in_all }) fits
