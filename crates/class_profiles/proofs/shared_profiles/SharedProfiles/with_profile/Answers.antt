-- The index puts the entry where the profile goes.
use Rattle.std.proofs.Common.{◌≤◌, ◌∙◌, ap, sym, subst, map, length}
use Rattle.profile_index.specs.Indexed.{AreOf}
use Rattle.racf_profiles.specs.Edits.{put_profile}
use Rattle.racf_profiles.specs.Limits.{most_class_profiles}
use Rattle.class_profiles.specs.Paired.{entry_of, items_of}
use Rattle.class_profiles.proofs.Pairs.{kinds-paired, put-items, put-kept}
use Rattle.class_profiles.proofs.shared_profiles.SharedProfiles.with_profile.Goals as goal

pub put-requires : goal.put-requires
put-requires c =
    let kind = ap (λ v. v.kind) c.self.view_is ∙ sym c.requires.kind in
    subst (λ es. AreOf c.args.profile.name.kind es) (sym c.self.invariant.paired)
    (subst (λ k. AreOf k (map entry_of (items_of c.self.inside.profiles))) kind (kinds-paired c.self.inside.kind (items_of c.self.inside.profiles) c.self.invariant.lawful.named))

pub invariant_of-what : goal.invariant_of-what
invariant_of-what c =
    let p = c.args.profile in
    let old = c.self.inside.profiles in
    let is = c.requires.kind ∙ sym (ap (λ v. v.kind) c.self.view_is) in
    let few = subst (λ v. length (put_profile p v.profiles) ≤ most_class_profiles) (sym c.self.view_is) c.requires.few in
    let ordered = c.puts_keep_the_order.ensures c.self.inside.kind p (items_of old) c.is_spelled.ensures is c.self.invariant.lawful.named c.self.invariant.lawful.ordered in
    put-kept c.self.inside.kind p c.is_spelled.ensures is old c.in_ok-made.made.what c.self.invariant.paired c.self.invariant.lawful c.in_ok-made.ensures.entries few ordered

pub returns-clause-profiles : goal.returns-clause-profiles
returns-clause-profiles c =
    let p = c.args.profile in
    let is = c.requires.kind ∙ sym (ap (λ v. v.kind) c.self.view_is) in
    put-items c.self.inside.kind p c.is_spelled.ensures is c.self.inside.profiles c.in_ok-made.made.what c.self.invariant.paired c.self.invariant.lawful c.in_ok-made.ensures.entries
    ∙ ap (λ v. put_profile p v.profiles) c.self.view_is
