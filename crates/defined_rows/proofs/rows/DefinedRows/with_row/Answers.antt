use Rattle.std.proofs.Common.{◌+◌, ◌∙◌, refl}
use Rattle.defined_rows.specs.declared.numbered.Defined.{Defined}
use Rattle.defined_rows.proofs.KeptLaws.{kept_replaced, kept_added}
use Rattle.defined_rows.proofs.ChangeLaws.{number_of, key_of, rises, found_in_order, missing_in_order, place_inside, set_is_put, insert_is_put, still_kept, rows_put}
use Rattle.defined_rows.proofs.rows.DefinedRows.with_row.Goals as goal

pub first-place-requires : goal.first-place-requires
first-place-requires g c = rises g.R.Keyed.key c.self.inside.order c.self.inside.by_key c.self.inside.next c.self.invariant c.in-Some.found.now.number

pub with_replaced-requires : goal.with_replaced-requires
with_replaced-requires g c =
    let key = g.R.Keyed.key in
    let self = c.self.inside in
    let k = key c.args.row in
    let found = found_in_order key self.order self.by_key self.next c.self.invariant k c.key.result.now c.in-Some.found.now c.key.ensures c.in-Some.ensures in
    place_inside key self.order self.by_key self.next c.self.invariant k c.in-Some.found.now found c.first-place.result c.first-place.ensures.place

pub invariant_of-result : goal.invariant_of-result
invariant_of-result g c =
    let key = g.R.Keyed.key in
    let self = c.self.inside in
    let k = key c.args.row in
    let d = c.in-Some.found.now in
    let y : Defined _ = record { number = d.number; row = c.args.row } in
    let found = found_in_order key self.order self.by_key self.next c.self.invariant k c.key.result.now d c.key.ensures c.in-Some.ensures in
    let put = c.in_ok-with_replaced-in-Some.ensures
    ∙ set_is_put key self.order self.by_key self.next c.self.invariant k d found c.first-place.result c.first-place.ensures.place y c.in_ok-row-in-Some.row.value c.in_ok-row-in-Some.ensures.ok in
    let kept = kept_replaced (number_of key) (key_of key) self.order self.by_key self.next c.self.invariant y d found refl (c.what_is_put_is_found.ensures y self.by_key) in
    still_kept key self.order self.by_key self.next c.self.invariant y c.in_ok-try_clone-in-Some.field-0.value c.in_ok-with_replaced-in-Some.field-0 c.in_ok-with_row-in-Some.field-0 self.next
    (c.in_ok-try_clone-in-Some.ensures ∙ c.in_ok-row-in-Some.ensures.ok) put c.in_ok-with_row-in-Some.ensures kept

pub invariant_of-result-in-None : goal.invariant_of-result-in-None
invariant_of-result-in-None g c =
    let key = g.R.Keyed.key in
    let self = c.self.inside in
    let k = key c.args.row in
    let y : Defined _ = record { number = self.next; row = c.args.row } in
    let missing = missing_in_order key self.order self.by_key self.next c.self.invariant k c.key.result.now c.key.ensures c.in-None.ensures in
    let put = c.in_ok-with_inserted-in-None.ensures
    ∙ insert_is_put key self.order self.by_key self.next c.self.invariant k y c.in_ok-row-in-None.row.value c.len.result missing c.len.ensures c.in_ok-row-in-None.ensures.ok in
    let kept = kept_added (number_of key) (key_of key) self.order self.by_key self.next c.self.invariant y missing refl (c.what_is_put_is_found.ensures y self.by_key) in
    still_kept key self.order self.by_key self.next c.self.invariant y c.in_ok-try_clone-in-None.field-0.value c.in_ok-with_inserted-in-None.field-0 c.in_ok-with_row-in-None.field-0 (self.next + 1)
    (c.in_ok-try_clone-in-None.ensures ∙ c.in_ok-row-in-None.ensures.ok) put c.in_ok-with_row-in-None.ensures kept

pub returns-in_ok-with_replaced-in-Some : goal.returns-in_ok-with_replaced-in-Some
returns-in_ok-with_replaced-in-Some g c =
    let key = g.R.Keyed.key in
    let self = c.self.inside in
    let k = key c.args.row in
    let d = c.in-Some.found.now in
    let y : Defined _ = record { number = d.number; row = c.args.row } in
    let found = found_in_order key self.order self.by_key self.next c.self.invariant k c.key.result.now d c.key.ensures c.in-Some.ensures in
    let put = c.in_ok-with_replaced-in-Some.ensures
    ∙ set_is_put key self.order self.by_key self.next c.self.invariant k d found c.first-place.result c.first-place.ensures.place y c.in_ok-row-in-Some.row.value c.in_ok-row-in-Some.ensures.ok in
    rows_put key self.order c.args.self.now c.self.view_is y k c.in_ok-with_replaced-in-Some.field-0 put

pub returns-in_ok-with_inserted-in-None : goal.returns-in_ok-with_inserted-in-None
returns-in_ok-with_inserted-in-None g c =
    let key = g.R.Keyed.key in
    let self = c.self.inside in
    let k = key c.args.row in
    let y : Defined _ = record { number = self.next; row = c.args.row } in
    let missing = missing_in_order key self.order self.by_key self.next c.self.invariant k c.key.result.now c.key.ensures c.in-None.ensures in
    let put = c.in_ok-with_inserted-in-None.ensures
    ∙ insert_is_put key self.order self.by_key self.next c.self.invariant k y c.in_ok-row-in-None.row.value c.len.result missing c.len.ensures c.in_ok-row-in-None.ensures.ok in
    rows_put key self.order c.args.self.now c.self.view_is y k c.in_ok-with_inserted-in-None.field-0 put
