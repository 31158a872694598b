-- One class more.
use Rattle.std.proofs.Common.{◌≡◌, arith}
use Rattle.std.proofs.lemmas.Grind.{common_steps}
use Rattle.std.specs.Vec.Iter.{into_iter_items}
use Rattle.stored_database.proofs.Front.{one-further}
use Rattle.stored_database.proofs.Classes.{empty, profiles, few_profiles, few_entries, so_far-next, all-are}
use Rattle.stored_database.proofs.class_rows.classes_of.Goals as goal

pub put_class-requires : goal.put_class-requires
put_class-requires c =
    let items = into_iter_items c.loop-class.class-iterator in
    let rest = into_iter_items c.next.new.self in
    record {
      empty = empty c.args.classes.items c.requires.lawful c.loop-class.yielded items c.in-Some.class rest c.in-Some.ensures.steps.0 c.loop-class.invariant.whole c.loop-class.tables.classes c.loop-class.invariant.so_far;
      lawful = profiles c.args.classes.items c.requires.lawful c.loop-class.yielded items c.in-Some.class rest c.in-Some.ensures.steps.0 c.loop-class.invariant.whole c.loop-class.tables.classes c.loop-class.invariant.so_far;
      few_profiles = few_profiles c.args.classes.items c.requires.lawful c.loop-class.yielded items c.in-Some.class rest c.in-Some.ensures.steps.0 c.loop-class.invariant.whole c.loop-class.tables.classes c.loop-class.invariant.so_far c.requires.few_profiles;
      few_entries = few_entries c.args.classes.items c.requires.lawful c.loop-class.yielded items c.in-Some.class rest c.in-Some.ensures.steps.0 c.loop-class.invariant.whole c.loop-class.tables.classes c.loop-class.invariant.so_far c.requires.few_entries;
    }

pub loop-class-preserved : goal.loop-class-preserved
loop-class-preserved c =
    let items = into_iter_items c.loop-class.class-iterator in
    let rest = into_iter_items c.next.new.self in
    record {
      whole = one-further c.args.classes.items c.loop-class.yielded items c.in-Some.class rest c.loop-class.invariant.whole c.in-Some.ensures.steps.0;
      so_far = so_far-next c.args.classes.items c.requires.lawful c.loop-class.yielded items c.in-Some.class rest c.in-Some.ensures.steps.0 c.loop-class.invariant.whole c.loop-class.tables.classes c.loop-class.invariant.so_far c.put_class.new.tables.classes c.in_ok-put_class.ensures;
    }

pub returns : goal.returns
returns c =
    let whole : c.loop-class.yielded ≡ c.args.classes.items = grind (arith, common_steps) in
    all-are c.args.classes.items c.loop-class.yielded c.requires.lawful whole c.loop-class.tables.classes c.loop-class.invariant.so_far
