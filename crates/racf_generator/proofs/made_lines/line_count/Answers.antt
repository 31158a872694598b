use Rattle.racf_generator.proofs.MadeLaws.{made_lines-count}
use Rattle.racf_generator.proofs.made_lines.line_count.Goals as goal

pub returns : goal.returns
returns c = made_lines-count c.args.users
