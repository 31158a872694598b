use Rattle.std.proofs.Common.{length, ap, sym, ◌∙◌}
use Rattle.profile_index.proofs.SlotOrderLaws.{length-entries}
use Rattle.profile_index.proofs.entry_slots.EntrySlots.len.Goals as goal

pub returns : goal.returns
returns g c =
    c.len.ensures ∙ sym (length-entries c.self.inside.slots.items c.self.inside.order.items c.self.invariant.0.there) ∙ ap (λ x. length x.entries) c.self.view_is
