use Rattle.racf_stream.proofs.OutputLaws.{status_of_turns}
use Rattle.racf_stream.proofs.laws.the_status_is_what_the_lines_say.Goals as goal

pub returns : goal.returns
returns c = status_of_turns
