use Rattle.std.proofs.Common.{◌≡◌, ◌+◌, ◌-◌, ◌<◌, ◌/◌, ◌∙◌, true, ap, get_or, length, arith, ⊎_elim}
use Rattle.std.specs.Ordering.{is_lt}
use Rattle.std.specs.declared.cmp.Ordering.TheVariants.{Less, Equal, Greater}
use Rattle.std.proofs.lemmas.Bool.{cases_lt}
use Rattle.std.proofs.lemmas.List.{get_or_default}
use Rattle.std.proofs.lemmas.Slice.Eq.{bytes_eq-Decides}
use Rattle.generic_names.specs.Spelled.{Spelled}
use Rattle.generic_names.specs.Laws.{IsPattern}
use Rattle.generic_names.specs.Before.{before}
use Rattle.generic_names.proofs.Lawful.{resource-pattern}
use Rattle.generic_names.proofs.OrderLaws.{passed_on, ties_are_equal, before-from-greater}
use Rattle.profile_index.specs.Indexed.{name_of}
use Rattle.profile_index.proofs.KeyLaws.{order-by-keys}
use Rattle.profile_index.proofs.OrderedLaws.{all-at, all-below, all-above, none-before, before-text, behind-text, half-weight, half-cost}
use Rattle.profile_index.proofs.search.place_of.Goals as goal

pub returns-in-Equal-clause-first : goal.returns-in-Equal-clause-first
returns-in-Equal-clause-first g c =
    let middle = c.loop-size.low + c.loop-size.size / 2 in
    let within : middle < length c.args.slots.now.entries = omega arith in
    let e = c.keyed.result.now in
    let named = all-at (λ x. IsPattern x.name) c.args.slots.now.entries c.requires.named middle e within in
    let kind = all-at (λ x. x.name.kind ≡ c.args.name.now.kind) c.args.slots.now.entries c.requires.kinds middle e within in
    let same = ties_are_equal (get_or c.args.slots.now.entries middle e).name c.args.name.now named (resource-pattern c.args.name.now c.is_resource.ensures) kind (order-by-keys name_of c.args.slots.now.entries c.requires.named c.args.name.now (resource-pattern c.args.name.now c.is_resource.ensures) c.order_key-key.result c.order_key-key.ensures middle e within c.keyed.ensures.value Equal c.in-Equal.ensures.order) in (
      within,
      none-before name_of c.args.slots.now.entries c.requires.ordered c.args.name.now c.requires.kinds middle within e same,
      λ d. (bytes_eq-Decides _ _).1 (ap (λ (n : Spelled). n.text) (ap name_of (get_or_default c.args.slots.now.entries middle d e within) ∙ same)),
    )

pub returns-in-Equal-clause-cost : goal.returns-in-Equal-clause-cost
returns-in-Equal-clause-cost g c =
    let more : c.counted.new.steps - c.args.steps.now ≡ c.loop-size.steps - c.args.steps.now + 1 = omega (arith, c.counted.ensures.counted, c.loop-size.invariant.onward) in
    rw more (half-cost (c.loop-size.steps - c.args.steps.now) c.loop-size.size (length c.args.slots.now.entries) c.loop-size.invariant.weight c.loop-size-test.true)

pub loop-size-preserved-in-Less : goal.loop-size-preserved-in-Less
loop-size-preserved-in-Less g c =
    let size = c.loop-size.size in
    let middle = c.loop-size.low + size / 2 in
    let within : middle < length c.args.slots.now.entries = omega arith in
    let e = c.keyed.result.now in
    let s = c.loop-size.steps - c.args.steps.now in
    let more : c.counted.new.steps - c.args.steps.now ≡ s + 1 = omega (arith, c.counted.ensures.counted, c.loop-size.invariant.onward) in
    let end : c.loop-size.low + size / 2 + 1 + (size - (size / 2 + 1)) ≡ c.loop-size.low + size = omega arith in
    record {
      within = omega arith;
      below = all-below name_of c.args.slots.now.entries c.requires.ordered c.requires.named middle e within (λ n. before n c.args.name.now ≡ true) (λ a b _ _. passed_on a b c.args.name.now) (ap is_lt (order-by-keys name_of c.args.slots.now.entries c.requires.named c.args.name.now (resource-pattern c.args.name.now c.is_resource.ensures) c.order_key-key.result c.order_key-key.ensures middle e within c.keyed.ensures.value Less c.in-Less.ensures.order));
      above = λ k d low high. c.loop-size.invariant.above k d (omega arith) high;
      onward = omega (arith, c.counted.ensures.counted);
      weight = rw more (half-weight s size (size - (size / 2 + 1)) (length c.args.slots.now.entries) c.loop-size.invariant.weight (omega arith));
      cost = rw more (half-cost s size (length c.args.slots.now.entries) c.loop-size.invariant.weight c.loop-size-test.true);
    }

pub loop-size-preserved : goal.loop-size-preserved
loop-size-preserved g c =
    let size = c.loop-size.size in
    let middle = c.loop-size.low + size / 2 in
    let within : middle < length c.args.slots.now.entries = omega arith in
    let e = c.keyed.result.now in
    let s = c.loop-size.steps - c.args.steps.now in
    let more : c.counted.new.steps - c.args.steps.now ≡ s + 1 = omega (arith, c.counted.ensures.counted, c.loop-size.invariant.onward) in
    record {
      within = omega arith;
      below = c.loop-size.invariant.below;
      above = all-above name_of c.args.slots.now.entries c.requires.ordered c.requires.named middle e within (λ n. before c.args.name.now n ≡ true) (λ a b _ _ first later. passed_on c.args.name.now a b later first) (before-from-greater (get_or c.args.slots.now.entries middle e).name c.args.name.now (order-by-keys name_of c.args.slots.now.entries c.requires.named c.args.name.now (resource-pattern c.args.name.now c.is_resource.ensures) c.order_key-key.result c.order_key-key.ensures middle e within c.keyed.ensures.value Greater c.in-Greater.ensures.order));
      onward = omega (arith, c.counted.ensures.counted);
      weight = rw more (half-weight s size (size / 2) (length c.args.slots.now.entries) c.loop-size.invariant.weight (omega arith));
      cost = rw more (half-cost s size (length c.args.slots.now.entries) c.loop-size.invariant.weight c.loop-size-test.true);
    }

pub returns-clause-first : goal.returns-clause-first
returns-clause-first g c k d low high =
    let kind = all-at (λ x. x.name.kind ≡ c.args.name.now.kind) c.args.slots.now.entries c.requires.kinds k d high in
    ⊎_elim
    (λ less. before-text (get_or c.args.slots.now.entries k d).name c.args.name.now kind (c.loop-size.invariant.below k d low less))
    (λ more. behind-text (get_or c.args.slots.now.entries k d).name c.args.name.now kind (c.loop-size.invariant.above k d (omega arith) high))
    (cases_lt k c.loop-size.low)
