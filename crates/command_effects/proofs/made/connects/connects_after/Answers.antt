use Rattle.std.proofs.Common.{arith}
use Rattle.std.proofs.lemmas.Grind.{common_steps}
use Rattle.command_effects.proofs.made.connects.connects_after.Goals as goal

pub loop-connection-preserved : goal.loop-connection-preserved
loop-connection-preserved c = grind (arith, common_steps)
