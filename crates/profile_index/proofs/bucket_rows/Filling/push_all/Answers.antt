use Rattle.std.proofs.Common.{◌≡◌, ◌+◌, ◌∷◌, [], ◌∙◌, suc, take, drop, Some, ap, sym, subst, arith}
use Rattle.std.specs.Arc.{arc_value}
use Rattle.profile_index.specs.Buckets.{with_entries, HasRoom}
use Rattle.profile_index.proofs.BucketLaws.{drop-next}
use Rattle.profile_index.proofs.RoomLaws.{with-more, room-front}
use Rattle.profile_index.proofs.bucket_rows.Filling.push_all.Goals as goal

pub push-requires-clause-room : goal.push-requires-clause-room
push-requires-clause-room g c =
    let ys = take c.args.end c.args.from.now in
    let place = c.loop-place.place in
    let here = c.loop-place.self in
    let e = arc_value c.in_ok-try_clone.field-0 in
    let next = drop-next c.args.from.now place c.args.end e (c.at.ensures ∙ ap (λ x. Some x) (sym c.in_ok-try_clone.ensures)) c.loop-place-test.true in
    let room = subst (λ f. HasRoom f) (sym c.loop-place.invariant) c.requires.room in
    room-front here (e ∷ []) (drop (suc place) ys) (subst (λ l. HasRoom (with_entries here l)) next room)

pub loop-place-preserved : goal.loop-place-preserved
loop-place-preserved g c =
    let ys = take c.args.end c.args.from.now in
    let place = c.loop-place.place in
    let here = c.loop-place.self in
    let e = arc_value c.in_ok-try_clone.field-0 in
    let step : suc place ≡ place + 1 = omega arith in
    let next = drop-next c.args.from.now place c.args.end e (c.at.ensures ∙ ap (λ x. Some x) (sym c.in_ok-try_clone.ensures)) c.loop-place-test.true ∙ ap (λ n. e ∷ drop n ys) step in
    ap (λ f. with_entries f (drop (place + 1) ys)) c.push.ensures
    ∙ with-more here (e ∷ []) (drop (place + 1) ys)
    ∙ ap (λ l. with_entries here l) (sym next)
    ∙ c.loop-place.invariant
