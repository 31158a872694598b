use Rattle.std.proofs.Common.{◌∙◌, ap, sym, arith, length, get_or, set, ◌≡◌, ◌<◌, ◌+◌, ◌/◌, ◌%◌, ◌∷◌, ◌++◌, length-set, eqb-true, subst}
use Rattle.std.specs.Prelude.{OnSome}
use Rattle.std.specs.List.{remove}
use Rattle.std.specs.Option.{option_to_list}
use Rattle.std.specs.VecDeque.{deque_len}
use Rattle.std.proofs.lemmas.Option.{same_Some}
use Rattle.tiered_list.specs.Rows.{row_items}
use Rattle.tiered_list.proofs.RowLaws.{get_at, shorten, shorten_next, short_end}
use Rattle.tiered_list.proofs.list.take_out.Goals as goal

pub loop-row-init : goal.loop-row-init
loop-row-init g c =
    let rows = c.args.rows.now in
    let place = c.args.place in
    let n = length (row_items rows) in
    let x = get_or rows (place / 256) c.index-rows-row.result in
    let is = ap (λ z. get_or rows (place / 256) z) c.index-rows-row.is in
    let size = (c.requires.tiered (place / 256) c.index-rows-row.result (omega arith)).len in
    let removed = c.remove in
    let item = c.unwrap-item.result in
    let within : place % 256 < deque_len x = omega (arith, size) in
    let is_item : item ≡ get_or x.items (place % 256) item = same_Some _ _ (sym c.unwrap-item.ensures ∙ removed.ensures.succeeds item within) in
    let items : removed.new.self.items ≡ remove x.items (place % 256) = subst (λ o. OnSome o (removed.new.self.items ≡ remove x.items (place % 256))) c.unwrap-item.ensures removed.ensures.items in
    let len : deque_len removed.new.self + 1 ≡ deque_len x = subst (λ o. OnSome o (deque_len removed.new.self + 1 ≡ deque_len x)) c.unwrap-item.ensures removed.ensures.len in
    record {
      item = get_at rows n place x c.requires.tiered c.requires.place c.requires.room is item is_item;
      long = length-set rows (place / 256) removed.new.self;
      short = shorten rows n (place / 256) (place % 256) place x removed.new.self c.requires.tiered (omega arith) (omega arith) c.requires.place within is items len removed.ensures.capacity;
    }

pub loop-row-preserved : goal.loop-row-preserved
loop-row-preserved g c =
    let rows = c.loop-row.rows in
    let r = c.loop-row.row in
    let n = length (row_items c.args.rows.now) in
    let popped = c.pop_front in
    let pushed = c.push_back_reserved in
    let item = c.unwrap-next.result in
    let front = set rows (r + 1) popped.new.self in
    let x = get_or rows (r + 1) c.index-rows-row-in-loop-row-2.result in
    let u = get_or front r c.index-rows-row-in-loop-row-3.result in
    let items : x.items ≡ item ∷ popped.new.self.items = popped.ensures.items ∙ ap (λ o. option_to_list o ++ popped.new.self.items) c.unwrap-next.ensures in
    let len : deque_len popped.new.self + 1 ≡ deque_len x = ap (λ o. deque_len popped.new.self + length (option_to_list o)) (sym c.unwrap-next.ensures) ∙ popped.ensures.len in
    record {
      item = c.loop-row.invariant.item;
      long = length-set front r pushed.new.self ∙ length-set rows (r + 1) popped.new.self ∙ c.loop-row.invariant.long;
      short = shorten_next rows n r x popped.new.self u pushed.new.self item (remove (row_items c.args.rows.now) c.args.place) c.loop-row.invariant.short c.loop-row-test.true (ap (λ z. get_or rows (r + 1) z) c.index-rows-row-in-loop-row-2.is) items len popped.ensures.capacity (ap (λ z. get_or front r z) c.index-rows-row-in-loop-row-3.is) pushed.ensures.items pushed.ensures.len pushed.ensures.capacity;
    }

pub returns-else-not-is_empty-clause-tiered : goal.returns-else-not-is_empty-clause-tiered
returns-else-not-is_empty-clause-tiered g c =
    let rows = c.loop-row.rows in
    let r = c.loop-row.row in
    let short = c.loop-row.invariant.short in
    let empty = eqb-true _ _ (sym c.is_empty.ensures ∙ c.if-not-is_empty.false) in
    let size = (short.others (r + 1) c.index-rows-row-in-loop-row.result c.loop-row-test.true (omega arith)).len in
    short_end rows (length (row_items c.args.rows.now)) r _ short (omega (arith, empty, size))

pub returns-after-loop-row-clause-tiered : goal.returns-after-loop-row-clause-tiered
returns-after-loop-row-clause-tiered g c =
    let rows = c.loop-row.rows in
    let long = c.loop-row.invariant.long in
    let short = c.loop-row.invariant.short in
    let last = c.loop-row-test.false in
    short_end rows (length (row_items c.args.rows.now)) c.loop-row.row _ short (omega (arith, last, long, c.requires.room))
