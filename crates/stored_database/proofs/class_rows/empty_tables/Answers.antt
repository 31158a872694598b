-- One class more.
use Rattle.std.proofs.Common.{◌-◌, List, take, drop, length}
use Rattle.racf_profiles.specs.declared.class_rows.ClassRow.{ClassRow}
use Rattle.stored_database.proofs.EmptyTables.{behind, can, so_far-next, all-added}
use Rattle.stored_database.proofs.class_rows.empty_tables.Goals as goal

pub add-requires : goal.add-requires
add-requires c =
    let all = c.args.classes.now in
    let dynamic : List ClassRow = take (length all - 15) (drop 15 all) in
    can all c.requires dynamic (behind all) c.loop-class.class-index c.loop-class-test.true c.class-item.result c.class-item.is c.loop-class.tables.classes c.loop-class.invariant
    c.reserve_class.new.self c.reserve_class.ensures.classes c.in_ok-reserve_class.ensures.room

pub loop-class-preserved : goal.loop-class-preserved
loop-class-preserved c =
    let all = c.args.classes.now in
    let dynamic : List ClassRow = take (length all - 15) (drop 15 all) in
    so_far-next all c.requires dynamic (behind all) c.loop-class.class-index c.loop-class-test.true c.class-item.result c.class-item.is c.loop-class.tables.classes c.loop-class.invariant
    c.reserve_class.new.self.classes c.add.new.self.classes c.reserve_class.ensures.classes c.add.ensures.classes

pub returns : goal.returns
returns c =
    let all = c.args.classes.now in
    let dynamic : List ClassRow = take (length all - 15) (drop 15 all) in
    all-added all dynamic (behind all) c.loop-class.class-index c.loop-class-test.false c.loop-class.tables.classes c.loop-class.invariant
