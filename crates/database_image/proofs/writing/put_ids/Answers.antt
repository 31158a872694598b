use Rattle.std.proofs.Common.{arith}
use Rattle.std.proofs.lemmas.Grind.{common_steps}
use Rattle.database_image.proofs.writing.put_ids.Goals as goal

pub loop-id-preserved : goal.loop-id-preserved
loop-id-preserved c = record {
  bytes = grind (arith, common_steps);
  spelled = grind (arith, common_steps);
}
