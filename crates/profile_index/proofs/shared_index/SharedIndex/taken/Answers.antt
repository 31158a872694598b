use Rattle.std.proofs.Common.{◌≡◌, ◌+◌, ◌-◌, ◌∙◌, length, take, ap, arith}
use Rattle.dataspace.specs.declared.room.Room.{Room}
use Rattle.profile_index.specs.Buckets.{both, keys_room}
use Rattle.profile_index.proofs.RoomLaws.{room-up-to}
use Rattle.profile_index.proofs.shared_index.SharedIndex.taken.Goals as goal

pub loop-place-preserved : goal.loop-place-preserved
loop-place-preserved g c =
    let bucket = c.bucket_at-row.result.0.now in
    let row = c.bucket_at-row.result.1 in
    let place = c.loop-place.place in
    let size : c.len-in-loop-place.result ≡ length bucket = c.len-in-loop-place.ensures.len in
    let up = room-up-to c.args.self.now bucket place row (place + (c.len-in-loop-place.result - row)) c.bucket_at-row.ensures (ap (λ n. place + (n - row)) size) in
    let bytes = ap (λ (r : Room). r.bytes) c.both-sum.ensures in
    let within = c.bucket_at-row.ensures.within in
    record {
      within = up.1;
      sum = c.both-sum.ensures
          ∙ ap (λ (r : Room). both r c.taken_from.result) c.loop-place.invariant.sum
          ∙ ap (λ (r : Room). both (keys_room (take place c.args.self.now)) r) c.taken_from.ensures.room
          ∙ up.0;
      bytes = omega (arith, bytes, size, within, c.taken_from.ensures.bytes, c.loop-place.invariant.bytes);
    }
