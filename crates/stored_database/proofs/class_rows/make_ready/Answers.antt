-- The two changes of flags are one, and leave the class where it is.
use Rattle.std.proofs.Common.{◌≤◌, length, IsSome, ◌∙◌, arith}
use Rattle.std.specs.List.{find}
use Rattle.racf_profiles.specs.Lookup.{is_class}
use Rattle.class_profiles.specs.Classes.{room_in}
use Rattle.stored_database.proofs.Profiles.{flags-both, is-there, on-ok}
use Rattle.stored_database.proofs.class_rows.make_ready.Goals as goal

pub returns-clause-classes : goal.returns-clause-classes
returns-clause-classes c = c.reserve.ensures.classes ∙ flags-both c.args.class.now c.args.tables.now.classes c.requires c.set_flags.new.self.classes c.set_listed.new.self.classes c.set_flags.ensures.classes c.set_listed.ensures.classes

pub returns-clause-room : goal.returns-clause-room
returns-clause-room c =
    let both = flags-both c.args.class.now c.args.tables.now.classes c.requires c.set_flags.new.self.classes c.set_listed.new.self.classes c.set_flags.ensures.classes c.set_listed.ensures.classes in
    let there = is-there c.args.class.now c.args.tables.now.classes c.requires c.set_listed.new.self.classes both in
    let enough = λ (room : IsSome (find (is_class c.args.class.now.name) c.set_listed.new.self.classes) → c.count_of.result ≤ room_in c.args.class.now.name c.reserve.new.self).
    let more = room there in let most : length c.args.class.now.profiles ≤ room_in c.args.class.now.name c.reserve.new.self = omega (arith, more, c.count_of.ensures) in most in
    on-ok c.reserve.result enough c.reserve.ensures.room
