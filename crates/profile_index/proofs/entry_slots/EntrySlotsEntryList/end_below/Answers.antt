use Rattle.std.proofs.Common.{◌≡◌, false, length, ap, subst, arith}
use Rattle.std.specs.List.{AllWithin}
use Rattle.profile_index.specs.EntrySlots.{in_slots, numbers}
use Rattle.generic_names.specs.OrderKey.{is_lower}
use Rattle.profile_index.proofs.SlotOrderLaws.{length-entries}
use Rattle.profile_index.proofs.entry_slots.EntrySlotsEntryList.end_below.Goals as goal

pub returns-clause-within : goal.returns-clause-within
returns-clause-within g c =
    let size = length-entries c.self.inside.slots.items c.self.inside.order.items c.self.invariant.0.there in
    omega (arith, c.end_below.ensures.within, size, ap (λ x. length x.entries) c.self.view_is)

pub returns-clause-above : goal.returns-clause-above
returns-clause-above g c =
    let slots = c.self.inside.slots.items in
    let order = c.self.inside.order.items in
    let place = c.end_below.result in
    let size = length-entries slots order c.self.invariant.0.there in
    let above = subst (λ s. AllWithin (λ e. is_lower e.name c.args.key.now ≡ false) (in_slots s (numbers order)) place (length order)) c.deref.ensures.value c.end_below.ensures.above in
    subst (λ x. AllWithin (λ e. is_lower e.name c.args.key.now ≡ false) x.entries place (length x.entries)) c.self.view_is (λ k d low high. above k d low (omega (arith, size, high)))
