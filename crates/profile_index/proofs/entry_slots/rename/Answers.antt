use Rattle.std.proofs.Common.{◌≡◌, Some, get_or, set, ap, sym, subst, ◌∙◌, arith}
use Rattle.std.specs.List.{slice_get}
use Rattle.profile_index.specs.declared.entry_slots.Slot.{Slot}
use Rattle.profile_index.specs.EntrySlots.{numbers}
use Rattle.std.proofs.lemmas.Option.{slice_get_within}
use Rattle.std.proofs.lemmas.List.{length-map, get_or_default}
use Rattle.profile_index.proofs.SlotOrderLaws.{renamed-at, renamed-none, number-got}
use Rattle.profile_index.proofs.entry_slots.rename.Goals.{else-place-len-via-then-place-len+else-at-from, else-place-len-via-else-place-len}
use Rattle.profile_index.proofs.entry_slots.rename.Goals as goal

pub returns-then-at-from-clause-items : goal.returns-then-at-from-clause-items
returns-then-at-from-clause-items c =
    let order = c.args.order.now.items in
    let slot = c.at.result.now in
    let here : get_or order c.args.place slot ≡ slot = sym c.at.ensures.value in
    let again : c.at-then-at-from.result.now ≡ get_or order c.args.place slot = c.at-then-at-from.ensures.value ∙ get_or_default order c.args.place c.at-then-at-from.result.now slot (omega (arith, c.len.ensures, c.if-place-len.true)) in
    let put : Slot → Slot = λ s. record { begin = s.begin; number = c.args.to } in
    c.replace.ensures.items
    ∙ ap (λ s. set order c.args.place (put s)) again
    ∙ renamed-at c.args.from c.args.to order c.args.place slot (omega (arith, c.len.ensures, c.if-place-len.true)) (ap (λ (s : Slot). s.number) here ∙ c.if-at-from.true) c.requires

pub returns-else-place-len-clause-items : goal.returns-else-place-len-clause-items
returns-else-place-len-clause-items c = renamed-none c.args.from c.args.to c.args.order.now.items (λ k at.
    let order = c.args.order.now.items in
    let is = c.requires k at in
    let low = slice_get_within (numbers order) k c.args.from at in
    let size = length-map order (λ (s : Slot). s.number) in
    elim c.else-place-len.branch [
      | else-place-len-via-then-place-len+else-at-from w ↦
          let here : Some w.at.result.now.number ≡ Some c.args.from = sym (number-got order c.args.place w.at.result.now w.at.ensures.there) ∙ subst (λ n. slice_get (numbers order) n ≡ Some c.args.from) is at in
          w.if-at-from.false (cc (here))
      | else-place-len-via-else-place-len w ↦ omega (arith, w.if-place-len.false, is, low, size, c.len.ensures)
    ])
