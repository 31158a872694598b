-- One profile more.
use Rattle.std.proofs.Common.{rules}
use Rattle.std.specs.Vec.Iter.{into_iter_items}
use Rattle.racf_profiles.specs.Counts.{profile_count, entry_count}
use Rattle.class_profiles.specs.Classes.{room_in}
use Rattle.stored_database.proofs.Front.{one-further}
use Rattle.stored_database.proofs.Profiles.{none-yet, can, so_far-next, room-next, few-next, entries-next}
use Rattle.stored_database.proofs.class_rows.put_profiles.Goals as goal

pub loop-profile-init : goal.loop-profile-init
loop-profile-init c = record {
  whole = search rules;
  so_far = none-yet c.args.class c.args.tables.now.classes c.requires.empty;
  room = search rules;
  few = search rules;
  few_entries = search rules;
}

pub put_last-requires : goal.put_last-requires
put_last-requires c =
    can c.order_is_total.ensures.passed_on c.args.class c.args.profiles c.requires.lawful c.args.tables.now.classes c.requires.empty c.loop-profile.tables c.loop-profile.yielded (into_iter_items c.loop-profile.profile-iterator) c.in-Some.profile
    (into_iter_items c.next.new.self) c.in-Some.ensures.steps.0 c.loop-profile.invariant.whole c.loop-profile.invariant.so_far c.loop-profile.invariant.room c.loop-profile.invariant.few c.loop-profile.invariant.few_entries

pub loop-profile-preserved : goal.loop-profile-preserved
loop-profile-preserved c = record {
  whole = one-further c.args.profiles c.loop-profile.yielded (into_iter_items c.loop-profile.profile-iterator) c.in-Some.profile (into_iter_items c.next.new.self) c.loop-profile.invariant.whole c.in-Some.ensures.steps.0;
  so_far = so_far-next c.order_is_total.ensures.passed_on c.args.class c.args.profiles c.requires.lawful c.args.tables.now.classes c.requires.empty c.loop-profile.tables c.loop-profile.yielded (into_iter_items c.loop-profile.profile-iterator) c.in-Some.profile
      (into_iter_items c.next.new.self) c.in-Some.ensures.steps.0 c.loop-profile.invariant.whole c.loop-profile.invariant.so_far c.put_last.new.tables.classes c.put_last.ensures.classes;
  room = room-next c.order_is_total.ensures.passed_on c.args.class c.args.profiles c.requires.lawful c.args.tables.now.classes c.requires.empty c.loop-profile.tables c.loop-profile.yielded (into_iter_items c.loop-profile.profile-iterator) c.in-Some.profile
      (into_iter_items c.next.new.self) c.in-Some.ensures.steps.0 c.loop-profile.invariant.whole c.loop-profile.invariant.so_far c.loop-profile.invariant.room c.loop-profile.invariant.few c.loop-profile.invariant.few_entries
      (room_in c.args.class c.put_last.new.tables) c.put_last.ensures.room;
  few = few-next c.order_is_total.ensures.passed_on c.args.class c.args.profiles c.requires.lawful c.args.tables.now.classes c.requires.empty c.loop-profile.tables c.loop-profile.yielded (into_iter_items c.loop-profile.profile-iterator) c.in-Some.profile
      (into_iter_items c.next.new.self) c.in-Some.ensures.steps.0 c.loop-profile.invariant.whole c.loop-profile.invariant.so_far c.loop-profile.invariant.room c.loop-profile.invariant.few c.loop-profile.invariant.few_entries
      (profile_count c.put_last.new.tables.classes) c.put_last.ensures.profiles;
  few_entries = entries-next c.order_is_total.ensures.passed_on c.args.class c.args.profiles c.requires.lawful c.args.tables.now.classes c.requires.empty c.loop-profile.tables c.loop-profile.yielded (into_iter_items c.loop-profile.profile-iterator) c.in-Some.profile
      (into_iter_items c.next.new.self) c.in-Some.ensures.steps.0 c.loop-profile.invariant.whole c.loop-profile.invariant.so_far c.loop-profile.invariant.room c.loop-profile.invariant.few c.loop-profile.invariant.few_entries
      (entry_count c.put_last.new.tables.classes) c.put_last.ensures.entries;
}
