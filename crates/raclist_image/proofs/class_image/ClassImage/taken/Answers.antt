-- The keys are those of the profiles' names.
use Rattle.std.proofs.Common.{◌∙◌, ap}
use Rattle.dataspace.specs.Rooms.{room_for}
use Rattle.class_profiles.specs.Table.{ProfilesOfKind}
use Rattle.raclist_image.specs.PlacedNames.{room_taken}
use Rattle.raclist_image.proofs.Keyed.{keys-paired}
use Rattle.raclist_image.proofs.class_image.ClassImage.taken.Goals as goal

pub returns : goal.returns
returns c =
    c.taken.ensures
    ∙ ap (λ keys. room_for keys) (keys-paired c.self.inside.profiles.profiles)
    ∙ ap (λ (image : ProfilesOfKind). room_taken image) c.self.view_is
