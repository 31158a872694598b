use Rattle.racf_generator.specs.MadeText.{made_text}
use Rattle.racf_run.specs.Making.{make_text, summary_text}
use Rattle.racf_run.proofs.Sent.{both, stopped, ends}
use Rattle.racf_run.proofs.making.make.Goals as goal

pub returns-in-Done-clause-ends : goal.returns-in-Done-clause-ends
returns-in-Done-clause-ends g c = ends c.write_summary.result (summary_text c.args.users) _ _ c.write_summary.ensures.wrote

pub returns-in-Done-clause-wrote : goal.returns-in-Done-clause-wrote
unfolding make_text
returns-in-Done-clause-wrote g c = both c.write_summary.result (made_text c.args.users) (summary_text c.args.users) _ _ _ c.in-Done.ensures.wrote c.write_summary.ensures.wrote

pub returns-in_default : goal.returns-in_default
unfolding make_text
returns-in_default g c = record {
  ends = ends c.write_made.result (made_text c.args.users) _ _ c.write_made.ensures.wrote;
  wrote = stopped c.write_made.result (made_text c.args.users) (summary_text c.args.users) _ _ c.in_default.not-Done c.write_made.ensures.wrote;
  write_fault = c.write_made.ensures.write_fault;
  sink_faults = c.write_made.ensures.sink_faults;
}
