use Rattle.std.proofs.Common.{◌≡◌, ◌+◌, ◌-◌, ◌/◌, true, false, sym, subst, ◌∙◌, arith}
use Rattle.generic_names.specs.OrderKey.{is_lower}
use Rattle.generic_names.proofs.KeyLaws.{lower-passed_on, not-lower-passed_on}
use Rattle.profile_index.specs.declared.entry.Entry.{Entry}
use Rattle.profile_index.specs.Indexed.{name_of}
use Rattle.profile_index.specs.EntrySlots.{in_slots, numbers}
use Rattle.profile_index.proofs.OrderedLaws.{all-below, all-above}
use Rattle.profile_index.proofs.SlotOrderLaws.{length-entries, entry-there}
use Rattle.profile_index.proofs.entry_slots.end_below.Goals as goal

pub loop-low-preserved-then-is_lower : goal.loop-low-preserved-then-is_lower
loop-low-preserved-then-is_lower g c =
    let slots = c.args.slots.now in
    let order = c.args.order.now.items in
    let middle = c.loop-low.low + (c.loop-low.high - c.loop-low.low) / 2 in
    let size = length-entries slots order c.requires.there in
    let e = entry-there slots order c.requires.there c.requires.begins c.requires.named middle c.at.result.now c.at.ensures.there in
    let is = c.is_lower.ensures e.0 e.1.is e.1.begin e.1.lawful in
    let holds = all-below name_of (in_slots slots (numbers order)) c.requires.ordered c.requires.named middle e.0 (omega (arith, size))
    (λ n. is_lower n c.args.key.now ≡ true) (λ a b. lower-passed_on a b c.args.key.now) (subst (λ (x : Entry _). is_lower x.name c.args.key.now ≡ true) e.1.read (sym is ∙ c.if-is_lower.true)) in
    record {
      middle = omega arith;
      within = c.loop-low.invariant.within;
      below = holds;
      above = c.loop-low.invariant.above;
    }

pub loop-low-preserved : goal.loop-low-preserved
loop-low-preserved g c =
    let slots = c.args.slots.now in
    let order = c.args.order.now.items in
    let middle = c.loop-low.low + (c.loop-low.high - c.loop-low.low) / 2 in
    let size = length-entries slots order c.requires.there in
    let e = entry-there slots order c.requires.there c.requires.begins c.requires.named middle c.at.result.now c.at.ensures.there in
    let is = c.is_lower.ensures e.0 e.1.is e.1.begin e.1.lawful in
    let fails = all-above name_of (in_slots slots (numbers order)) c.requires.ordered c.requires.named middle e.0 (omega (arith, size))
    (λ n. is_lower n c.args.key.now ≡ false) (λ a b. not-lower-passed_on a b c.args.key.now) (subst (λ (x : Entry _). is_lower x.name c.args.key.now ≡ false) e.1.read (sym is ∙ c.if-is_lower.false)) in
    record {
      middle = omega arith;
      within = omega arith;
      below = c.loop-low.invariant.below;
      above = λ k d low high. fails k d low (omega (arith, size, high));
    }
