-- A name that is none of the kind is no profile's.
use Rattle.std.proofs.Common.{◌≡◌, ◌∙◌, ◌+◌, Option, None, ap, sym, arith, is_some, if◌then◌else◌}
use Rattle.std.specs.List.{find}
use Rattle.racf_profiles.specs.declared.profiles.Profile.{Profile}
use Rattle.racf_profiles.specs.Lookup.{is_profile}
use Rattle.racf_profiles.proofs.EditLaws.{drop_row-absent}
use Rattle.class_profiles.specs.Paired.{items_of}
use Rattle.class_profiles.proofs.Pairs.{none-named}
use Rattle.class_profiles.proofs.table.ProfileTable.remove.Goals as goal

absent : (c : goal.In_default) → find (is_profile c.args.name.now) c.args.self.now.profiles ≡ None
absent c = ap (λ v. find (is_profile c.args.name.now) v.profiles) (sym c.self.view_is)
    ∙ none-named c.self.inside.kind c.args.name.now (items_of c.self.inside.profiles.entries) (sym c.of_kind.ensures ∙ c.in_default.is) c.self.invariant.lawful.named

pub returns-in_default-clause-profiles : goal.returns-in_default-clause-profiles
returns-in_default-clause-profiles c = sym (drop_row-absent (is_profile c.args.name.now) c.args.self.now.profiles (absent c))

pub returns-in_default-clause-spare : goal.returns-in_default-clause-spare
returns-in_default-clause-spare c =
    let same = ap (λ (o : Option Profile). c.args.self.now.spare + (if is_some o then 1 else 0)) (absent c) in omega (arith, same)
