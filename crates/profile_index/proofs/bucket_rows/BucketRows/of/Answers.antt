use Rattle.std.specs.Arc.{arc_value}
use Rattle.profile_index.proofs.RoomLaws.{room-each}
use Rattle.profile_index.proofs.bucket_rows.BucketRows.of.Goals as goal

pub push-requires-clause-room : goal.push-requires-clause-room
push-requires-clause-room g c =
    let all = c.loop-entry.invariant in
    room-each arc_value c.loop-entry.filling c.args.entries.now c.loop-entry.entry-index c.entry-item.result (arc_value c.in_ok-try_clone.field-0) all.entries all.room c.loop-entry-test.true c.entry-item.is
    c.in_ok-try_clone.ensures
