use Rattle.std.proofs.Common.{◌∙◌, map}
use Rattle.std.specs.Arc.{arc_value}
use Rattle.profile_index.specs.Buckets.{key_of}
use Rattle.profile_index.proofs.RoomLaws.{none-spare}
use Rattle.profile_index.proofs.bucket_rows.BucketRows.spare.Goals as goal

pub returns : goal.returns
returns g c = c.spare.ensures.spare ∙ none-spare c.self.inside.keys (map key_of (map arc_value c.self.inside.rows.items)) c.self.invariant
