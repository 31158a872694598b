-- The entries are those of the profiles.
use Rattle.std.proofs.Common.{◌∙◌, ap, map, subst}
use Rattle.profile_index.specs.Buckets.{key_of, IsRegionAt}
use Rattle.class_profiles.specs.Table.{ProfilesOfKind}
use Rattle.class_profiles.specs.Paired.{entry_of}
use Rattle.class_profiles.proofs.shared_profiles.SharedProfiles.keys_at.Goals as goal

pub returns : goal.returns
returns c =
    subst (λ es. IsRegionAt (map key_of es) c.args.place c.keys_at.result.0.now c.keys_at.result.1)
    (c.self.invariant.paired ∙ ap (λ (t : ProfilesOfKind). map entry_of t.profiles) c.self.view_is)
    c.keys_at.ensures
