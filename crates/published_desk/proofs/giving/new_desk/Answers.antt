use Rattle.published_desk.proofs.Opening.{together}
use Rattle.published_desk.proofs.giving.new_desk.Goals as goal

pub returns-in-Ok : goal.returns-in-Ok
returns-in-Ok c = record { fresh = c.in-Ok.ensures.desk; together = together c.in-Ok.desk c.in-Ok.ensures.desk }
