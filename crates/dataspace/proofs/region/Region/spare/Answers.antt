use Rattle.std.proofs.Common.{◌∙◌, ◌<◌, ◌≤◌, sym, ap, subst}
use Rattle.std.specs.Prelude.{◌↔◌, IsTrue}
use Rattle.dataspace.specs.declared.room.Room.{Room}
use Rattle.dataspace.specs.Placed.{IsWithinRoom, fits}
use Rattle.dataspace.specs.Rooms.{spare}
use Rattle.dataspace.proofs.KeptLaws.{within-seen}
use Rattle.dataspace.proofs.SpareLaws.{spare-seen, fits-spare}
use Rattle.dataspace.proofs.region.Region.spare.Goals as goal

pub returns-clause-spare : goal.returns-clause-spare
returns-clause-spare c =
    let inside = c.self.inside in
    spare-seen inside c.self.invariant _ _ (c.len.ensures ∙ inside.bytes.ok.0) (c.len-2.ensures ∙ inside.ends.ok.0) ∙ ap (λ r. spare r) c.self.view_is

pub returns-clause-fits : goal.returns-clause-fits
returns-clause-fits c size =
    let region = c.args.self.now in
    let within = subst (λ r. IsWithinRoom r) c.self.view_is (within-seen c.self.inside c.self.invariant) in
    subst (λ (room : Room). IsTrue (fits region size) ↔ ((size ≤ room.bytes) × (0 < room.rows))) (sym (returns-clause-spare c)) (fits-spare region size within)
