use Rattle.racf_run.proofs.Sent.{short_front}
use Rattle.racf_run.proofs.making.write_text.Goals as goal

pub returns-in-Err-clause-wrote : goal.returns-in-Err-clause-wrote
returns-in-Err-clause-wrote g c = short_front c.args.text.now _ _ c.in-Err.ensures.front
