-- The new class stands behind the others, without room.
use Rattle.std.proofs.Common.{◌∙◌, List, ap}
use Rattle.class_profiles.specs.Classes.{ClassWithRoom, ClassList, room_in, room_among}
use Rattle.class_profiles.specs.Summed.{rows_in}
use Rattle.class_profiles.proofs.Places.{spares}
use Rattle.class_profiles.proofs.Dynamic.{room-more}
use Rattle.class_profiles.proofs.class_tables.ClassTables.add.Goals as goal

pub returns-clause-room : goal.returns-clause-room
returns-clause-room c =
    λ name. ap (λ (cs : List ClassWithRoom). room_among name (rows_in cs) (spares cs)) c.push_reserved.ensures.items
    ∙ room-more name c.self.inside.classes.items c.in-Ok.table (ap (λ (t : ClassWithRoom). t.spare) c.in-Ok.ensures.empty)
    ∙ ap (λ (v : ClassList). room_in name v) c.self.view_is
