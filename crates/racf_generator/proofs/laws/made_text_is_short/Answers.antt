use Rattle.racf_generator.proofs.MadeLaws.{made_text-size}
use Rattle.racf_generator.proofs.laws.made_text_is_short.Goals as goal

pub returns : goal.returns
returns c = made_text-size
