use Rattle.std.proofs.Common.{true, false, length, arith}
use Rattle.generic_names.specs.Gap.{is_below}
use Rattle.profile_index.specs.Indexed.{name_of}
use Rattle.profile_index.proofs.KeyLaws.{below-within}
use Rattle.profile_index.proofs.RisingLaws.{before-failing}
use Rattle.profile_index.proofs.search.end_of_gap.Goals as goal

pub returns-clause-onward : goal.returns-clause-onward
returns-clause-onward g c =
    let entries = g.E.EntryList.entries c.args.list.now in
    before-failing (λ e. is_below e.name c.args.gap.now) entries c.end_below.result c.args.from
    (below-within name_of entries c.requires.named c.order_key.result false c.end_below.result (length entries) (omega arith) c.end_below.ensures.above c.args.gap.now c.order_key.ensures.ranked c.order_key.ensures.key)
    c.requires.within c.requires.begun

pub returns-clause-below : goal.returns-clause-below
returns-clause-below g c k d low high =
    below-within name_of (g.E.EntryList.entries c.args.list.now) c.requires.named c.order_key.result true 0 c.end_below.result c.end_below.ensures.within c.end_below.ensures.below
    c.args.gap.now c.order_key.ensures.ranked c.order_key.ensures.key k d (omega arith) high
