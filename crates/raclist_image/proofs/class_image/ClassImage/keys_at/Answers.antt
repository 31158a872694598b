-- The keys are those of the profiles' names.
use Rattle.std.proofs.Common.{◌∙◌, ap, subst}
use Rattle.class_profiles.specs.Table.{ProfilesOfKind}
use Rattle.profile_index.specs.Buckets.{IsRegionAt}
use Rattle.raclist_image.specs.PlacedNames.{keys_of}
use Rattle.raclist_image.proofs.Keyed.{keys-paired}
use Rattle.raclist_image.proofs.class_image.ClassImage.keys_at.Goals as goal

pub returns : goal.returns
returns c =
    subst (λ keys. IsRegionAt keys c.args.place c.keys_at.result.0.now c.keys_at.result.1)
    (keys-paired c.self.inside.profiles.profiles ∙ ap (λ (image : ProfilesOfKind). keys_of image.profiles) c.self.view_is)
    c.keys_at.ensures
