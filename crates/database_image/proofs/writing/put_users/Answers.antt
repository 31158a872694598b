use Rattle.std.proofs.Common.{arith}
use Rattle.std.proofs.lemmas.Grind.{common_steps}
use Rattle.database_image.proofs.writing.put_users.Goals as goal

pub loop-user-preserved : goal.loop-user-preserved
loop-user-preserved c = record {
  bytes = grind (arith, common_steps);
  spelled = grind (arith, common_steps);
}
