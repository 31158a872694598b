use Rattle.std.proofs.Common.{◌≡◌, ◌∙◌, ap, sym, refl, map, length, vec_len, arith}
use Rattle.std.proofs.lemmas.List.{length-map}
use Rattle.std.specs.Arc.{arc_value}
use Rattle.dataspace.specs.Placed.{Placed, used}
use Rattle.profile_index.specs.Buckets.{key_of, keys_room}
use Rattle.profile_index.proofs.RoomLaws.{none-spare, room-behind}
use Rattle.profile_index.proofs.bucket_rows.BucketRows.taken_from.Goals as goal

pub overflow_sub-result : goal.overflow_sub-result
overflow_sub-result g c =
    let free = c.spare-spare.ensures.spare ∙ none-spare c.self.inside.keys (map key_of (map arc_value c.self.inside.rows.items)) c.self.invariant in
    let bytes = c.used.ensures.used ∙ ap (λ (k : Placed). used k.texts) c.self.invariant ∙ ap (λ xs. (keys_room xs).bytes) c.self.view_is in
    (room-behind c.args.self.now c.args.place c.none.result c.room_with-front.result c.spare-spare.result c.used.result (length c.args.self.now) c.none.ensures c.room_with-front.ensures.room free bytes refl).0

pub returns-clause-room : goal.returns-clause-room
returns-clause-room g c =
    let free = c.spare-spare.ensures.spare ∙ none-spare c.self.inside.keys (map key_of (map arc_value c.self.inside.rows.items)) c.self.invariant in
    let bytes = c.used.ensures.used ∙ ap (λ (k : Placed). used k.texts) c.self.invariant ∙ ap (λ xs. (keys_room xs).bytes) c.self.view_is in
    let size : vec_len c.self.inside.rows ≡ length c.self.inside.rows.items = omega (arith, c.self.inside.rows.ok.0) in
    let count = c.len.ensures ∙ size ∙ sym (length-map c.self.inside.rows.items arc_value) ∙ ap (λ xs. length xs) c.self.view_is in
    (room-behind c.args.self.now c.args.place c.none.result c.room_with-front.result c.spare-spare.result c.used.result c.len.result c.none.ensures c.room_with-front.ensures.room free bytes count).1.1
