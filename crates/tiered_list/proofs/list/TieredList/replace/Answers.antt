use Rattle.std.proofs.Common.{◌∙◌, ap, sym, arith, length, set, refl, length-set, ◌≤◌, ◌<◌, ◌*◌, ◌%◌, Some}
use Rattle.std.specs.List.{slice_get}
use Rattle.std.specs.VecDeque.{deque_with_item}
use Rattle.tiered_list.specs.Rows.{row_items}
use Rattle.tiered_list.proofs.RowLaws.{get_at, set_at, tiered_set_at}
use Rattle.tiered_list.proofs.list.TieredList.replace.Goals as goal

pub invariant_of-self : goal.invariant_of-self
invariant_of-self g c =
    let list = c.self.inside in
    let place = c.args.place in
    let rows = list.rows.items in
    let ok = list.rows.ok.0 in
    let kept = c.self.invariant in
    let seen = ap (λ v. length v.items) c.self.view_is in
    let lt : place < list.len = omega (arith, seen, kept.len, c.requires) in
    let whole : list.len ≤ 256 * length rows = omega (arith, ok, kept.room) in
    let x = c.index_mut.result.now in
    let y = deque_with_item x (place % 256) c.replace.new.dest in
    let items = set_at rows list.len place x kept.tiered lt whole c.index_mut.ensures.value y c.replace.new.dest refl in record {
      tiered = tiered_set_at rows list.len place x kept.tiered lt whole c.index_mut.ensures.value y refl refl;
      len = ap length items ∙ length-set (row_items rows) place c.replace.new.dest ∙ kept.len;
      room = kept.room;
      few = kept.few;
    }

pub returns-clause-item : goal.returns-clause-item
returns-clause-item g c =
    let list = c.self.inside in
    let place = c.args.place in
    let ok = list.rows.ok.0 in
    let kept = c.self.invariant in
    let seen = ap (λ v. length v.items) c.self.view_is in
    ap (λ v. slice_get v.items place) (sym c.self.view_is)
    ∙ get_at list.rows.items list.len place c.index_mut.result.now kept.tiered (omega (arith, seen, kept.len, c.requires)) (omega (arith, ok, kept.room)) c.index_mut.ensures.value c.index_mut-2.result.now c.index_mut-2.ensures.value
    ∙ ap (λ x. Some x) (sym c.replace.ensures.value)

pub returns-clause-items : goal.returns-clause-items
returns-clause-items g c =
    let list = c.self.inside in
    let place = c.args.place in
    let rows = list.rows.items in
    let ok = list.rows.ok.0 in
    let kept = c.self.invariant in
    let seen = ap (λ v. length v.items) c.self.view_is in
    let x = c.index_mut.result.now in
    let y = deque_with_item x (place % 256) c.replace.new.dest in
    set_at rows list.len place x kept.tiered (omega (arith, seen, kept.len, c.requires)) (omega (arith, ok, kept.room)) c.index_mut.ensures.value y c.replace.new.dest refl
    ∙ ap (λ item. set (row_items rows) place item) c.replace.ensures.after
    ∙ ap (λ v. set v.items place c.args.item) c.self.view_is
