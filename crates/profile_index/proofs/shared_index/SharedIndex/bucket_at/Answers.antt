use Rattle.std.proofs.Common.{subst}
use Rattle.pages.specs.PartAt.{IsPartAt}
use Rattle.pages.proofs.Seams.{part_of_part}
use Rattle.profile_index.proofs.shared_index.SharedIndex.bucket_at.Goals as goal

pub returns : goal.returns
returns g c =
    let page = c.leaf_at-rest.result.0.now in
    let rest = c.leaf_at-rest.result.1 in
    let there = subst (λ entries. IsPartAt entries c.args.place page rest) c.self.view_is c.leaf_at-rest.ensures in
    part_of_part c.args.self.now page c.part_at.result.0.now c.args.place rest c.part_at.result.1 there c.part_at.ensures
