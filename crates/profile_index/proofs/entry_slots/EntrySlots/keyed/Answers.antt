use Rattle.std.proofs.Common.{length, ap, sym, ◌∙◌, arith}
use Rattle.std.specs.List.{slice_get}
use Rattle.profile_index.proofs.SlotLaws.{value-at}
use Rattle.profile_index.proofs.SlotOrderLaws.{length-entries, slot-there, entry-got}
use Rattle.profile_index.proofs.entry_slots.EntrySlots.keyed.Goals as goal

pub at-requires : goal.at-requires
at-requires g c =
    let size = length-entries c.self.inside.slots.items c.self.inside.order.items c.self.invariant.0.there in
    let view = ap (λ x. length x.entries) c.self.view_is in
    omega (arith, size, view, c.requires)

pub index-requires : goal.index-requires
index-requires g c =
    let low = slot-there c.self.inside.slots.items c.self.inside.order.items c.self.invariant.0.there c.args.place c.at.result.now c.at.ensures.there in
    omega (arith, low, c.self.inside.slots.ok.0)

pub returns-clause-there : goal.returns-clause-there
returns-clause-there g c =
    ap (λ xs. slice_get xs c.args.place) (sym (ap (λ x. x.entries) c.self.view_is))
    ∙ entry-got c.self.inside.slots.items c.self.inside.order.items c.self.invariant.0.there c.args.place c.at.result.now c.at.ensures.there c.index.result.now c.index.ensures

pub returns-clause-value : goal.returns-clause-value
returns-clause-value g c =
    value-at c.args.self.now.entries c.args.place c.index.result.now
    (ap (λ xs. slice_get xs c.args.place) (sym (ap (λ x. x.entries) c.self.view_is))
    ∙ entry-got c.self.inside.slots.items c.self.inside.order.items c.self.invariant.0.there c.args.place c.at.result.now c.at.ensures.there c.index.result.now c.index.ensures)
