use Rattle.command_authority.proofs.SpecialLaws.{special_law}
use Rattle.command_authority.proofs.laws.special_lacks_auditor_alone.Goals as goal

pub returns : goal.returns
returns c = special_law
