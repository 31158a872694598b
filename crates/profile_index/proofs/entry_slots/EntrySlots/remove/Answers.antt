use Rattle.std.proofs.Common.{◌≡◌, ◌+◌, ◌-◌, ◌<◌, true, false, List, length, map, get_or, ap, sym, subst, ◌∙◌, arith}
use Rattle.std.specs.List.{remove}
use Rattle.profile_index.specs.declared.entry.Entry.{Entry}
use Rattle.profile_index.specs.declared.entry_slots.Slot.{Slot}
use Rattle.profile_index.specs.EntrySlots.{in_slots, numbers, renamed, renamed_slot, IsKept, HaveBegins}
use Rattle.generic_names.specs.Best.{IsInOrder, AreNamed}
use Rattle.std.proofs.lemmas.List.{get_or_default}
use Rattle.profile_index.specs.Indexed.{name_of}
use Rattle.profile_index.proofs.SlotLaws.{length-in_slots, remove-kept, remove-slots, rest-got, removed-slot, left-there, left-ordered, left-named, only-place}
use Rattle.profile_index.proofs.SlotOrderLaws.{length-entries, number-at, numbers-remove, numbers-renamed, begins-remove, begins-left, entry-read}
use Rattle.profile_index.proofs.KeyLaws.{before-within}
use Rattle.profile_index.proofs.entry_slots.EntrySlots.remove.Goals as goal

pub remove-slot-requires : goal.remove-slot-requires
remove-slot-requires g c =
    let size = length-entries c.self.inside.slots.items c.self.inside.order.items c.self.invariant.0.there in
    let view = ap (λ x. length x.entries) c.self.view_is in
    omega (arith, size, view, c.requires.within)

pub end_below-moved-requires-clause-there : goal.end_below-moved-requires-clause-there
end_below-moved-requires-clause-there g c =
    let order = c.self.inside.order.items in
    let left_is = ap (λ (xs : List Slot). numbers xs) c.remove-slot.ensures.items ∙ numbers-remove order c.args.place in
    left-there c.self.inside.slots.items (numbers order) c.self.invariant.0.there c.args.place c.deref.result.now (numbers c.remove-slot.new.self.items) c.deref.ensures.value left_is

pub end_below-moved-requires-clause-begins : goal.end_below-moved-requires-clause-begins
end_below-moved-requires-clause-begins g c =
    subst (λ xs. HaveBegins xs c.remove-slot.new.self.items) (sym c.deref.ensures.value)
    (subst (λ xs. HaveBegins c.self.inside.slots.items xs) (sym c.remove-slot.ensures.items)
    (begins-left c.self.inside.slots.items c.self.inside.order.items c.self.invariant.0.there c.self.invariant.1 c.args.place))

pub end_below-moved-requires-clause-ordered : goal.end_below-moved-requires-clause-ordered
end_below-moved-requires-clause-ordered g c =
    let order = c.self.inside.order.items in
    let left_is = ap (λ (xs : List Slot). numbers xs) c.remove-slot.ensures.items ∙ numbers-remove order c.args.place in
    left-ordered c.self.inside.slots.items (numbers order) c.self.invariant.0.there c.args.place c.deref.result.now (numbers c.remove-slot.new.self.items) c.deref.ensures.value left_is
    (subst (λ x. IsInOrder name_of x.entries) (sym c.self.view_is) c.requires.ordered)

pub end_below-moved-requires-clause-named : goal.end_below-moved-requires-clause-named
end_below-moved-requires-clause-named g c =
    let order = c.self.inside.order.items in
    let left_is = ap (λ (xs : List Slot). numbers xs) c.remove-slot.ensures.items ∙ numbers-remove order c.args.place in
    left-named c.self.inside.slots.items (numbers order) c.self.invariant.0.there c.args.place c.deref.result.now (numbers c.remove-slot.new.self.items) c.deref.ensures.value left_is
    (subst (λ x. AreNamed name_of x.entries) (sym c.self.view_is) c.requires.named)

pub rename-requires : goal.rename-requires
rename-requires g c k at =
    let slots = c.self.inside.slots.items in
    let order = c.self.inside.order.items in
    let same = c.deref.result.now in
    let left = numbers c.remove-slot.new.self.items in
    let slots_is = c.deref.ensures.value in
    let left_is = ap (λ (xs : List Slot). numbers xs) c.remove-slot.ensures.items ∙ numbers-remove order c.args.place in
    let there = left-there slots (numbers order) c.self.invariant.0.there c.args.place same left slots_is left_is in
    let ordered = left-ordered slots (numbers order) c.self.invariant.0.there c.args.place same left slots_is left_is (subst (λ x. IsInOrder name_of x.entries) (sym c.self.view_is) c.requires.ordered) in
    let named = left-named slots (numbers order) c.self.invariant.0.there c.args.place same left slots_is left_is (subst (λ x. AreNamed name_of x.entries) (sym c.self.view_is) c.requires.named) in
    let entries = length-in_slots same left there in
    let size = length-entries same c.remove-slot.new.self.items there in
    let last = c.index.result.now in
    let place = c.end_below-moved.result in
    only-place same left there ordered (c.len-last.result - 1) last (c.index.ensures ∙ ap (λ xs. get_or xs (c.len-last.result - 1) last) (sym slots_is)) place
    (before-within name_of (in_slots same left) named c.key.result.now true 0 place (omega (arith, size, c.end_below-moved.ensures.within)) c.end_below-moved.ensures.below last.name c.key.ensures.named c.key.ensures.key)
    (before-within name_of (in_slots same left) named c.key.result.now false place (length left) (omega (arith, entries)) (λ i d low high. c.end_below-moved.ensures.above i d low (omega (arith, size, entries, high))) last.name c.key.ensures.named c.key.ensures.key) k
    at

pub invariant_of-self : goal.invariant_of-self
invariant_of-self g c =
    let slots = c.self.inside.slots.items in
    let order = c.self.inside.order.items in
    let others = c.swap_remove-entry.new.self.items in
    let number = c.remove-slot.result.number in
    let size = length-in_slots slots (numbers order) c.self.invariant.0.there in
    let view = ap (λ x. length x.entries) c.self.view_is in
    let within : c.args.place < length (numbers order) = omega (arith, size, view, c.requires.within) in
    let fewer : length others + 1 ≡ length slots = omega (arith, c.swap_remove-entry.ensures.len, c.swap_remove-entry.new.self.ok.0, c.self.inside.slots.ok.0) in
    let is_slot = removed-slot (numbers order) c.args.place number within (number-at order c.args.place c.remove-slot.result c.remove-slot.ensures.item) in
    let count : c.len-last.result - 1 ≡ length others = omega (arith, c.len-last.ensures, c.self.inside.slots.ok.0, fewer) in
    let written = c.rename.ensures.items ∙ ap (λ n. map (λ s. renamed_slot n number s) c.remove-slot.new.self.items) count ∙ ap (λ xs. map (λ s. renamed_slot (length others) number s) xs) c.remove-slot.ensures.items in
    let new_numbers = ap (λ (xs : List Slot). numbers xs) written ∙ numbers-renamed (length others) number (remove order c.args.place) ∙ ap (λ xs. map (λ n. renamed (length others) number n) xs) (numbers-remove order c.args.place) in
    let old_len = c.self.inside.slots.ok.0 in (
      subst (λ xs. IsKept others xs) (sym new_numbers) (remove-kept slots others (numbers order) c.self.invariant.0 c.args.place within number is_slot fewer
          (λ d h. c.swap_remove-entry.ensures.by_index.0 d (omega (arith, h, old_len)) ∙ ap (λ n. get_or slots (n - 1) d) old_len)
          (λ k d other h. c.swap_remove-entry.ensures.by_index.1 k d other (omega (arith, h, old_len)))),
      subst (λ xs. HaveBegins others xs) (sym written)
          (begins-remove slots order c.self.invariant.0.there c.self.invariant.1 others c.args.place (length others) number
          (rest-got slots others (numbers order) c.self.invariant.0 c.args.place within number is_slot fewer
          (λ d h. c.swap_remove-entry.ensures.by_index.0 d (omega (arith, h, old_len)) ∙ ap (λ n. get_or slots (n - 1) d) old_len)
          (λ k d other h. c.swap_remove-entry.ensures.by_index.1 k d other (omega (arith, h, old_len))))),
      omega (arith, c.swap_remove-entry.ensures.len, c.swap_remove-entry.ensures.capacity, c.self.invariant.2),
      omega (arith, c.rename.ensures.spare, c.remove-slot.ensures.spare, c.self.invariant.3),
      omega (arith, c.swap_remove-entry.ensures.len, c.self.invariant.4),
    )

pub returns-clause-item : goal.returns-clause-item
returns-clause-item g c d =
    let slots = c.self.inside.slots.items in
    let order = c.self.inside.order.items in
    let view = ap (λ x. length x.entries) c.self.view_is in
    let e = c.swap_remove-entry.result in
    c.into_item.ensures
    ∙ ap (λ (x : Entry _). x.item) (entry-read slots order c.self.invariant.0.there c.args.place c.remove-slot.result c.remove-slot.ensures.item e c.swap_remove-entry.ensures.value ∙ get_or_default (in_slots slots (numbers order)) c.args.place e d (omega (arith, view, c.requires.within)))
    ∙ ap (λ x. (get_or x.entries c.args.place d).item) c.self.view_is

pub returns-clause-entries : goal.returns-clause-entries
returns-clause-entries g c =
    let slots = c.self.inside.slots.items in
    let order = c.self.inside.order.items in
    let others = c.swap_remove-entry.new.self.items in
    let number = c.remove-slot.result.number in
    let size = length-in_slots slots (numbers order) c.self.invariant.0.there in
    let view = ap (λ x. length x.entries) c.self.view_is in
    let within : c.args.place < length (numbers order) = omega (arith, size, view, c.requires.within) in
    let fewer : length others + 1 ≡ length slots = omega (arith, c.swap_remove-entry.ensures.len, c.swap_remove-entry.new.self.ok.0, c.self.inside.slots.ok.0) in
    let is_slot = removed-slot (numbers order) c.args.place number within (number-at order c.args.place c.remove-slot.result c.remove-slot.ensures.item) in
    let count : c.len-last.result - 1 ≡ length others = omega (arith, c.len-last.ensures, c.self.inside.slots.ok.0, fewer) in
    let written = c.rename.ensures.items ∙ ap (λ n. map (λ s. renamed_slot n number s) c.remove-slot.new.self.items) count ∙ ap (λ xs. map (λ s. renamed_slot (length others) number s) xs) c.remove-slot.ensures.items in
    let new_numbers = ap (λ (xs : List Slot). numbers xs) written ∙ numbers-renamed (length others) number (remove order c.args.place) ∙ ap (λ xs. map (λ n. renamed (length others) number n) xs) (numbers-remove order c.args.place) in
    let old_len = c.self.inside.slots.ok.0 in
    ap (λ xs. in_slots others xs) new_numbers
    ∙ remove-slots slots others (numbers order) c.self.invariant.0 c.args.place within number is_slot fewer
    (λ d h. c.swap_remove-entry.ensures.by_index.0 d (omega (arith, h, old_len)) ∙ ap (λ n. get_or slots (n - 1) d) old_len)
    (λ k d other h. c.swap_remove-entry.ensures.by_index.1 k d other (omega (arith, h, old_len)))
    ∙ ap (λ x. remove x.entries c.args.place) c.self.view_is
