use Rattle.std.specs.Arc.{arc_value}
use Rattle.racf_desk.proofs.RepeatLaws.{new_is_first}
use Rattle.racf_desk.proofs.recovery.new_database.Goals as goal

pub returns-clause-position : goal.returns-clause-position
returns-clause-position c = new_is_first c.in_ok-rows.rows (arc_value c.in_ok-found.found.image) c.in_ok-found.found.gate c.in_ok-rows.ensures c.in_ok-found.ensures.position
