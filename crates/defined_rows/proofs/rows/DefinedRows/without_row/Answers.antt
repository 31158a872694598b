use Rattle.std.proofs.Common.{◌∙◌, refl}
use Rattle.std.proofs.lemmas.Result.{IfOk-weaker}
use Rattle.defined_rows.proofs.ChangeLaws.{rises, found_in_order, missing_in_order, place_inside, remove_is_drop, still_kept_without, rows_dropped, rows_stay}
use Rattle.defined_rows.proofs.rows.DefinedRows.without_row.Goals as goal

pub first-place-requires : goal.first-place-requires
first-place-requires g c = rises g.R.Keyed.key c.self.inside.order c.self.inside.by_key c.self.inside.next c.self.invariant c.in-Some.found.now.number

pub with_removed-requires : goal.with_removed-requires
with_removed-requires g c =
    let key = g.R.Keyed.key in
    let self = c.self.inside in
    let k = c.args.key.now in
    let found = found_in_order key self.order self.by_key self.next c.self.invariant k k c.in-Some.found.now refl c.in-Some.ensures in
    place_inside key self.order self.by_key self.next c.self.invariant k c.in-Some.found.now found c.first-place.result c.first-place.ensures.place

pub invariant_of-result : goal.invariant_of-result
invariant_of-result g c =
    let key = g.R.Keyed.key in
    let self = c.self.inside in
    let k = c.args.key.now in
    let found = found_in_order key self.order self.by_key self.next c.self.invariant k k c.in-Some.found.now refl c.in-Some.ensures in
    let dropped = c.in_ok-with_removed-in-Some.ensures
    ∙ remove_is_drop key self.order self.by_key self.next c.self.invariant k c.in-Some.found.now found c.first-place.result c.first-place.ensures.place in
    still_kept_without key self.order self.by_key self.next c.self.invariant k c.in_ok-with_removed-in-Some.field-0 c.in_ok-without_row-in-Some.field-0
    dropped c.in_ok-without_row-in-Some.ensures (c.what_goes_is_not_found.ensures k self.by_key)

pub returns-in_ok-with_removed-in-Some : goal.returns-in_ok-with_removed-in-Some
returns-in_ok-with_removed-in-Some g c =
    let key = g.R.Keyed.key in
    let self = c.self.inside in
    let k = c.args.key.now in
    let found = found_in_order key self.order self.by_key self.next c.self.invariant k k c.in-Some.found.now refl c.in-Some.ensures in
    let dropped = c.in_ok-with_removed-in-Some.ensures
    ∙ remove_is_drop key self.order self.by_key self.next c.self.invariant k c.in-Some.found.now found c.first-place.result c.first-place.ensures.place in
    rows_dropped key self.order c.args.self.now c.self.view_is k c.in_ok-with_removed-in-Some.field-0 dropped

pub returns-in-None : goal.returns-in-None
returns-in-None g c =
    let key = g.R.Keyed.key in
    let self = c.self.inside in
    let k = c.args.key.now in
    let missing = missing_in_order key self.order self.by_key self.next c.self.invariant k k refl c.in-None.ensures in
    IfOk-weaker c.share.result _ _ (λ table h. h ∙ rows_stay key self.order c.args.self.now c.self.view_is k missing) c.share.ensures
