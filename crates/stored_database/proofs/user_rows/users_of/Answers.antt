-- One user more.
use Rattle.std.specs.Vec.Iter.{into_iter_items}
use Rattle.stored_database.proofs.Users.{can, whole-next, room-next}
use Rattle.stored_database.proofs.user_rows.users_of.Goals as goal

pub put-requires : goal.put-requires
put-requires c =
    can c.args.users.items c.requires.lawful c.requires.few_connections c.loop-user.table (into_iter_items c.loop-user.user-iterator) c.in-Some.user (into_iter_items c.next.new.self)
    c.in-Some.ensures.steps.0 c.loop-user.invariant.whole c.loop-user.invariant.room

pub loop-user-preserved : goal.loop-user-preserved
loop-user-preserved c = record {
  whole = whole-next c.args.users.items c.requires.lawful c.requires.few_connections c.loop-user.table (into_iter_items c.loop-user.user-iterator) c.in-Some.user (into_iter_items c.next.new.self)
      c.in-Some.ensures.steps.0 c.loop-user.invariant.whole c.loop-user.invariant.room c.put.new.self.users c.put.ensures.users;
  room = room-next c.args.users.items c.requires.lawful c.requires.few_connections c.loop-user.table (into_iter_items c.loop-user.user-iterator) c.in-Some.user (into_iter_items c.next.new.self)
      c.in-Some.ensures.steps.0 c.loop-user.invariant.whole c.loop-user.invariant.room c.put.new.self.spare c.put.ensures.spare;
}
