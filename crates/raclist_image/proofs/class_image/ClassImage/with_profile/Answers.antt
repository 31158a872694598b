-- A profile that stands among lawful profiles has their kind, and they aren't too many.
use Rattle.std.proofs.Common.{◌≤◌, ◌∙◌, length, ap, sym, subst}
use Rattle.racf_profiles.specs.declared.profiles.Profile.{Profile}
use Rattle.racf_profiles.specs.Edits.{put_profile}
use Rattle.racf_profiles.specs.Limits.{most_class_profiles}
use Rattle.class_profiles.specs.Table.{ProfilesOfKind}
use Rattle.raclist_image.proofs.PutKinds.{kind-put}
use Rattle.raclist_image.proofs.class_image.ClassImage.with_profile.Goals as goal

pub with_profile-requires-clause-kind : goal.with_profile-requires-clause-kind
with_profile-requires-clause-kind c =
    let kind = kind-put c.args.self.now.kind c.args.profile.now c.args.self.now.profiles c.requires.named in
    ap (λ (p : Profile). p.name.kind) c.in_ok-copy.ensures ∙ kind ∙ sym (ap (λ (image : ProfilesOfKind). image.kind) c.self.view_is)

pub with_profile-requires-clause-few : goal.with_profile-requires-clause-few
with_profile-requires-clause-few c =
    subst (λ (p : Profile). length (put_profile p c.self.inside.profiles.profiles) ≤ most_class_profiles) (sym c.in_ok-copy.ensures)
    (subst (λ (image : ProfilesOfKind). length (put_profile c.args.profile.now image.profiles) ≤ most_class_profiles) (sym c.self.view_is) c.requires.few)
