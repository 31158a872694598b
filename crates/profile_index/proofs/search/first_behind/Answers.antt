use Rattle.std.proofs.Common.{true}
use Rattle.profile_index.specs.Indexed.{name_of}
use Rattle.profile_index.proofs.KeyLaws.{below-within}
use Rattle.profile_index.proofs.search.first_behind.Goals as goal

pub returns : goal.returns
returns g c =
    let first = c.first_from.ensures in
    let below = below-within name_of c.args.list.now c.requires.named c.order_key.result true 0 first.0 first.1.0 first.1.1.0 c.args.gap.now c.order_key.ensures.ranked c.order_key.ensures.key in
    (first.0, (first.1.0, (below, first.1.1.1)))
