use Rattle.std.proofs.Common.{◌≡◌, true, subst, get_or, arith}
use Rattle.generic_names.specs.Gap.{NoneCovers}
use Rattle.generic_names.proofs.Lawful.{resource-pattern}
use Rattle.profile_index.specs.declared.entry.Entry.{Entry}
use Rattle.profile_index.specs.Indexed.{name_of}
use Rattle.profile_index.proofs.KeyLaws.{before-within}
use Rattle.profile_index.proofs.OrderedLaws.{all-at, before-covers, none-in-gap}
use Rattle.profile_index.proofs.search.first_that_covers.Goals as goal

pub loop-place-init : goal.loop-place-init
loop-place-init g c =
    let entries = g.E.EntryList.entries c.args.list.now in
    let before_it = before-within name_of entries c.requires.named c.order_key.result true 0 c.end_below-place.result c.end_below-place.ensures.within c.end_below-place.ensures.below
    c.args.name.now (resource-pattern c.args.name.now c.is_resource.ensures) c.order_key.ensures in
    record {
      within = c.end_below-place.ensures.within;
      none = λ k d low high.
          before-covers (get_or entries k d).name c.args.name.now c.is_resource.ensures (all-at (λ e. e.name.kind ≡ c.args.name.now.kind) entries c.requires.kinds k d (omega arith)) (before_it k d low high);
    }

pub loop-place-preserved-in-Some : goal.loop-place-preserved-in-Some
loop-place-preserved-in-Some g c = record {
  within = c.end_of_gap-place.ensures.within;
  none = none-in-gap name_of (g.E.EntryList.entries c.args.list.now) c.requires.ordered c.loop-place.place c.entry.result.now (omega arith) c.args.name.now c.in-Some.gap c.end_of_gap-place.result
      c.requires.named c.requires.kinds (subst (λ (x : Entry _). NoneCovers x.name c.in-Some.gap c.args.name.now) c.entry.ensures c.in-Some.ensures.none) c.end_of_gap-place.ensures.within c.end_of_gap-place.ensures.below c.loop-place.invariant.none;
}
