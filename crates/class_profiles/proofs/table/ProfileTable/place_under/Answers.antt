-- The index finds the entry, and its place is the profile's. An ID is a qualifier that fits.
use Rattle.std.proofs.Common.{List, Option, ap, length, subst, map, arith}
use Rattle.std.specs.List.{find}
use Rattle.access_levels.proofs.SpelledIds.{id_of-short}
use Rattle.profile_index.specs.declared.entry.Entry.{Entry}
use Rattle.profile_index.specs.Indexed.{IsPlaceOf as IsEntryAt, is_under as is_entry_under}
use Rattle.racf_profiles.specs.declared.profiles.Profile.{Profile}
use Rattle.class_profiles.specs.Paired.{entry_of, items_of}
use Rattle.class_profiles.specs.Table.{IsPlaceOf}
use Rattle.class_profiles.specs.Classes.{is_under}
use Rattle.class_profiles.proofs.Pairs.{find-mapped, place-paired}
use Rattle.class_profiles.proofs.table.ProfileTable.place_under.Goals as goal

pub first_under-requires : goal.first_under-requires
first_under-requires c =
    let size = ap (λ (text : List _). length text) c.text.ensures.spelling in
    omega (arith, size, id_of-short c.args.qualifier c.args.qualifier c.text.ensures.spelled)

pub returns : goal.returns
returns c =
    let ps = items_of c.self.inside.profiles.entries in
    let under = subst (λ (q : List _). IsEntryAt c.self.inside.profiles.entries (find (is_entry_under q) c.self.inside.profiles.entries) c.first_under.result) c.text.ensures.spelling c.first_under.ensures in
    let there = subst (λ (es : List (Entry Profile)). IsEntryAt es (find (is_entry_under c.args.qualifier) es) c.first_under.result) c.self.invariant.paired under in
    let found = subst (λ (o : Option (Entry Profile)). IsEntryAt (map entry_of ps) o c.first_under.result) (find-mapped (is_entry_under c.args.qualifier) ps) there in
    subst (λ v. IsPlaceOf v.profiles (find (is_under c.args.qualifier) v.profiles) c.first_under.result) c.self.view_is
    (place-paired ps (find (is_under c.args.qualifier) ps) c.first_under.result found)
