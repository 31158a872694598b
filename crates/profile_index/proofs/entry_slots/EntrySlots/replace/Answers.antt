use Rattle.std.proofs.Common.{◌<◌, length, get_or, set, ap, ◌∙◌, arith}
use Rattle.profile_index.specs.declared.entry.Entry.{Entry}
use Rattle.profile_index.specs.EntrySlots.{in_slots, numbers}
use Rattle.std.proofs.lemmas.List.{get_or_default}
use Rattle.profile_index.proofs.SlotLaws.{length-in_slots, in_slots-set, set-kept}
use Rattle.profile_index.proofs.SlotOrderLaws.{length-entries, slot-there, entry-read, number-at, begins-set}
use Rattle.profile_index.proofs.entry_slots.EntrySlots.replace.Goals as goal

pub at-requires : goal.at-requires
at-requires g c =
    let size = length-entries c.self.inside.slots.items c.self.inside.order.items c.self.invariant.0.there in
    let view = ap (λ x. length x.entries) c.self.view_is in
    omega (arith, size, view, c.requires)

pub index_mut-requires : goal.index_mut-requires
index_mut-requires g c =
    let low = slot-there c.self.inside.slots.items c.self.inside.order.items c.self.invariant.0.there c.args.place c.at.result.now c.at.ensures.there in
    omega (arith, low, c.self.inside.slots.ok.0)

pub invariant_of-self : goal.invariant_of-self
invariant_of-self g c =
    let slots = c.self.inside.slots.items in
    let order = c.self.inside.order.items in
    let number = c.at.result.now.number in
    let new = c.replace.new.self in
    let low = slot-there slots order c.self.invariant.0.there c.args.place c.at.result.now c.at.ensures.there in
    let e = c.index_mut.result.now in
    let same = ap (λ (x : Entry _). x.name) (c.replace.ensures.entry ∙ ap (λ (x : Entry _). record { name = x.name; item = c.args.item }) (c.index_mut.ensures.value ∙ get_or_default slots number e new low)) in (
      set-kept slots (numbers order) number new c.self.invariant.0,
      begins-set slots order c.self.invariant.0.there c.self.invariant.1 number new same,
      omega (arith, c.self.invariant.2),
      c.self.invariant.3,
      omega (arith, c.self.invariant.4),
    )

pub returns-clause-item : goal.returns-clause-item
returns-clause-item g c d =
    let slots = c.self.inside.slots.items in
    let order = c.self.inside.order.items in
    let size = length-entries slots order c.self.invariant.0.there in
    let view = ap (λ x. length x.entries) c.self.view_is in
    let e = c.index_mut.result.now in
    let here = entry-read slots order c.self.invariant.0.there c.args.place c.at.result.now c.at.ensures.there e c.index_mut.ensures.value
    ∙ get_or_default (in_slots slots (numbers order)) c.args.place e d (omega (arith, view, c.requires)) in
    c.replace.ensures.item ∙ ap (λ (x : Entry _). x.item) here ∙ ap (λ x. (get_or x.entries c.args.place d).item) c.self.view_is

pub returns-clause-entries : goal.returns-clause-entries
returns-clause-entries g c d =
    let slots = c.self.inside.slots.items in
    let order = c.self.inside.order.items in
    let size = length-in_slots slots (numbers order) c.self.invariant.0.there in
    let view = ap (λ x. length x.entries) c.self.view_is in
    let within : c.args.place < length (numbers order) = omega (arith, size, view, c.requires) in
    let number = number-at order c.args.place c.at.result.now c.at.ensures.there ∙ get_or_default (numbers order) c.args.place c.at.result.now.number 0 within in
    let e = c.index_mut.result.now in
    let here = entry-read slots order c.self.invariant.0.there c.args.place c.at.result.now c.at.ensures.there e c.index_mut.ensures.value
    ∙ get_or_default (in_slots slots (numbers order)) c.args.place e d (omega (arith, view, c.requires)) in
    let put : Entry _ → Entry _ = λ x. record { name = x.name; item = c.args.item } in
    ap (λ n. in_slots (set slots n c.replace.new.self) (numbers order)) number
    ∙ in_slots-set slots (numbers order) c.args.place c.replace.new.self c.self.invariant.0.there c.self.invariant.0.apart within
    ∙ ap (λ x. set (in_slots slots (numbers order)) c.args.place x) (c.replace.ensures.entry ∙ ap put here)
    ∙ ap (λ x. set x.entries c.args.place (put (get_or x.entries c.args.place d))) c.self.view_is
