use Rattle.std.proofs.Common.{arith}
use Rattle.std.proofs.lemmas.Grind.{common_steps}
use Rattle.database_image.proofs.writing.put_cond_entries.Goals as goal

pub loop-row-preserved : goal.loop-row-preserved
loop-row-preserved c = record {
  bytes = grind (arith, common_steps);
  spelled = grind (arith, common_steps);
}
