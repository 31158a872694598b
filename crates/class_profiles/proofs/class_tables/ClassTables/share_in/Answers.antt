-- No profile has more entries than all.
use Rattle.std.proofs.Common.{ℕ, Option, ap, arith}
use Rattle.std.specs.Option.{option_map_or}
use Rattle.racf_profiles.specs.declared.profiles.Profile.{Profile}
use Rattle.racf_profiles.specs.Counts.{entries_in}
use Rattle.class_profiles.proofs.Changes.{profiles-le, entries-le}
use Rattle.class_profiles.proofs.class_tables.ClassTables.share_in.Goals as goal

pub share_of_any-requires : goal.share_of_any-requires
share_of_any-requires c =
    let le = entries-le c.args.class c.args.name.now c.args.self.now.classes in
    let here = ap (λ (o : Option Profile). option_map_or entries_in o 0) c.profile.ensures in
    omega (arith, le, here, c.what_is_kept.ensures.entries)

pub returns-clause-few : goal.returns-clause-few
returns-clause-few c =
    let le = profiles-le c.args.class c.args.name.now c.args.self.now.classes in
    let here = ap {B = ℕ} (λ (o : Option Profile). option_map_or (λ (p : Profile). 1) o 0) c.profile.ensures in
    omega (arith, le, here, c.share_of_any.ensures.profiles)

pub returns-clause-few_entries : goal.returns-clause-few_entries
returns-clause-few_entries c =
    let le = entries-le c.args.class c.args.name.now c.args.self.now.classes in
    let here = ap (λ (o : Option Profile). option_map_or entries_in o 0) c.profile.ensures in
    omega (arith, le, here, c.share_of_any.ensures.entries)
