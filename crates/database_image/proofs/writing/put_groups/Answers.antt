use Rattle.std.proofs.Common.{arith}
use Rattle.std.proofs.lemmas.Grind.{common_steps}
use Rattle.database_image.proofs.writing.put_groups.Goals as goal

pub loop-group-preserved : goal.loop-group-preserved
loop-group-preserved c = record {
  bytes = grind (arith, common_steps);
  spelled = grind (arith, common_steps);
}
