use Rattle.command_authority.proofs.SpecialLaws.{absent_law}
use Rattle.command_authority.proofs.laws.nobody_else_gives_commands.Goals as goal

pub returns : goal.returns
returns c = absent_law
