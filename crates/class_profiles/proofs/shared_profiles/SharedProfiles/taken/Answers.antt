-- The entries are those of the profiles.
use Rattle.std.proofs.Common.{◌∙◌, ap, map}
use Rattle.profile_index.specs.Buckets.{keys_room}
use Rattle.class_profiles.specs.Table.{ProfilesOfKind}
use Rattle.class_profiles.specs.Paired.{entry_of}
use Rattle.class_profiles.proofs.shared_profiles.SharedProfiles.taken.Goals as goal

pub returns : goal.returns
returns c = c.taken.ensures ∙ ap (λ es. keys_room es) (c.self.invariant.paired ∙ ap (λ (t : ProfilesOfKind). map entry_of t.profiles) c.self.view_is)
