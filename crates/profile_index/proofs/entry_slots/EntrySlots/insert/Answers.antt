use Rattle.std.proofs.Common.{◌≡◌, ◌≤◌, List, ◌++◌, ◌∷◌, [], length, ap, sym, subst, ◌∙◌, arith}
use Rattle.std.specs.List.{insert}
use Rattle.profile_index.specs.declared.entry_slots.Slot.{Slot}
use Rattle.profile_index.specs.EntrySlots.{in_slots, numbers, IsKept, HaveBegins}
use Rattle.std.specs.Result.{is_ok}
use Rattle.profile_index.proofs.SlotLaws.{length-in_slots, insert-kept, insert-slots}
use Rattle.profile_index.proofs.SlotOrderLaws.{length-entries, numbers-insert, begins-insert}
use Rattle.pages.specs.KeyBegin.{begin_of}
use Rattle.profile_index.proofs.entry_slots.EntrySlots.insert.Goals as goal

pub insert-requires-clause-room : goal.insert-requires-clause-room
insert-requires-clause-room g c = omega (arith, ap (λ x. x.spare) c.self.view_is, c.self.invariant.3, c.requires.room)

pub insert-requires-clause-place : goal.insert-requires-clause-place
insert-requires-clause-place g c =
    let size = length-entries c.self.inside.slots.items c.self.inside.order.items c.self.invariant.0.there in
    let view = ap (λ x. length x.entries) c.self.view_is in
    omega (arith, size, view, c.requires.place)

pub invariant_of-self : goal.invariant_of-self
invariant_of-self g c =
    let slots = c.self.inside.slots.items in
    let order = c.self.inside.order.items in
    let e = c.args.entry in
    let p = c.args.place in
    let slot : Slot = record { begin = c.begin_of-begin.result; number = c.len-number.result } in
    let size = length-in_slots slots (numbers order) c.self.invariant.0.there in
    let view = ap (λ x. length x.entries) c.self.view_is in
    let room = ap (λ x. x.spare) c.self.view_is in
    let within : p ≤ length (numbers order) = omega (arith, size, view, c.requires.place) in
    let pushed = rw (ap (λ r. is_ok r) c.unwrap.ensures) at c.push.ensures.items in
    let pushed_len = rw (ap (λ r. is_ok r) c.unwrap.ensures) at c.push.ensures.len in
    let number : c.len-number.result ≡ length slots = c.len-number.ensures ∙ c.self.inside.slots.ok.0 in
    let inserted = c.insert.ensures.items in
    let new_numbers = ap (λ (xs : List Slot). numbers xs) inserted ∙ numbers-insert order p slot ∙ ap (λ n. insert (numbers order) p n) number in
    let begin = c.begin_of-begin.ensures.begin ∙ ap (λ k. begin_of k) (c.as_bytes.ensures ∙ c.key.ensures.key) in (
      subst (λ xs. IsKept xs (numbers c.insert.new.self.items)) (sym pushed) (subst (λ xs. IsKept (slots ++ e ∷ []) xs) (sym new_numbers) (insert-kept slots (numbers order) c.self.invariant.0 e p within)),
      subst (λ xs. HaveBegins xs c.insert.new.self.items) (sym pushed) (subst (λ xs. HaveBegins (slots ++ e ∷ []) xs) (sym inserted) (begins-insert slots order c.self.invariant.0.there c.self.invariant.1 p e slot number begin)),
      omega (arith, pushed_len, c.push.ensures.capacity, c.self.invariant.2, room, c.requires.room),
      omega (arith, c.insert.ensures.spare, c.self.invariant.3, room, c.requires.room),
      omega (arith, pushed_len, c.self.invariant.4, room, c.requires.room),
    )

pub returns-clause-entries : goal.returns-clause-entries
returns-clause-entries g c =
    let slots = c.self.inside.slots.items in
    let order = c.self.inside.order.items in
    let e = c.args.entry in
    let p = c.args.place in
    let slot : Slot = record { begin = c.begin_of-begin.result; number = c.len-number.result } in
    let size = length-in_slots slots (numbers order) c.self.invariant.0.there in
    let view = ap (λ x. length x.entries) c.self.view_is in
    let within : p ≤ length (numbers order) = omega (arith, size, view, c.requires.place) in
    let pushed = rw (ap (λ r. is_ok r) c.unwrap.ensures) at c.push.ensures.items in
    let number : c.len-number.result ≡ length slots = c.len-number.ensures ∙ c.self.inside.slots.ok.0 in
    let new_numbers = ap (λ (xs : List Slot). numbers xs) c.insert.ensures.items ∙ numbers-insert order p slot ∙ ap (λ n. insert (numbers order) p n) number in
    ap (λ xs. in_slots xs (numbers c.insert.new.self.items)) pushed ∙ ap (λ xs. in_slots (slots ++ e ∷ []) xs) new_numbers
    ∙ insert-slots slots (numbers order) c.self.invariant.0 e p within
    ∙ ap (λ x. insert x.entries p e) c.self.view_is
