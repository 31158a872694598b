use Rattle.std.proofs.Common.{◌∙◌, ◌+◌, take, drop, Some, sym, ap, arith}
use Rattle.profile_index.specs.Buckets.{both, keys_room}
use Rattle.profile_index.proofs.RoomLaws.{key-short, room-next}
use Rattle.profile_index.proofs.bucket_rows.BucketRows.room_with.Goals as goal

pub plus-sum-requires-clause-bytes : goal.plus-sum-requires-clause-bytes
plus-sum-requires-clause-bytes g c =
    let is = c.at.ensures ∙ ap (λ e. Some e) (sym c.deref.ensures) in
    let short = key-short c.args.self.now c.loop-place.place c.deref.result.now c.key.result.now is c.key.ensures c.is_pattern.ensures in
    let sum = c.loop-place.invariant in
    omega (arith, short, sum.bytes, sum.rows, c.requires.rows, c.loop-place-test.true, c.loop-place.auto.place)

pub loop-place-preserved : goal.loop-place-preserved
loop-place-preserved g c =
    let is = c.at.ensures ∙ ap (λ e. Some e) (sym c.deref.ensures) in
    let short = key-short c.args.self.now c.loop-place.place c.deref.result.now c.key.result.now is c.key.ensures c.is_pattern.ensures in
    let sum = c.loop-place.invariant in
    let bytes = ap (λ r. r.bytes) c.plus-sum.ensures in
    let rows = ap (λ r. r.rows) c.plus-sum.ensures in
    record {
      room = ap (λ r. both r (keys_room (drop (c.loop-place.place + 1) (take c.args.end c.args.self.now)))) c.plus-sum.ensures
          ∙ room-next c.loop-place.sum c.args.self.now c.loop-place.place c.args.end c.deref.result.now c.key.result.now is c.loop-place-test.true c.key.ensures
          ∙ sum.room;
      rows = omega (arith, rows, sum.rows);
      bytes = omega (arith, bytes, rows, short, sum.bytes);
    }
