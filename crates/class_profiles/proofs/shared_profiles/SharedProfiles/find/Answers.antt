-- The index finds the entry, which is that of the profile.
use Rattle.std.proofs.Common.{◌∙◌, List, ap, sym, subst, map}
use Rattle.std.specs.Option.{option_map}
use Rattle.profile_index.specs.declared.entry.Entry.{Entry}
use Rattle.profile_index.specs.Indexed.{AreOf, name_of}
use Rattle.generic_names.specs.Best.{best}
use Rattle.racf_profiles.specs.declared.profiles.Profile.{Profile}
use Rattle.class_profiles.specs.Paired.{entry_of, items_of}
use Rattle.class_profiles.specs.Table.{best_profile}
use Rattle.class_profiles.proofs.Pairs.{kinds-paired, best-paired}
use Rattle.class_profiles.proofs.shared_profiles.SharedProfiles.find.Goals as goal

pub find-requires : goal.find-requires
find-requires c =
    let kind = ap (λ v. v.kind) c.self.view_is ∙ sym c.requires in
    subst (λ es. AreOf c.args.name.now.kind es) (sym c.self.invariant.paired)
    (subst (λ k. AreOf k (map entry_of (items_of c.self.inside.profiles))) kind (kinds-paired c.self.inside.kind (items_of c.self.inside.profiles) c.self.invariant.lawful.named))

pub returns : goal.returns
returns c =
    let name = c.args.name.now in
    c.find.ensures
    ∙ ap (λ (es : List (Entry Profile)). best name_of es name) c.self.invariant.paired
    ∙ best-paired name (items_of c.self.inside.profiles)
    ∙ ap (λ v. option_map entry_of (best_profile v.profiles name)) c.self.view_is
