use Rattle.generic_names.proofs.Lawful.{reads_back, resource-pattern}
use Rattle.generic_names.proofs.laws.text_reads_back.Goals as goal

pub returns-clause-pattern : goal.returns-clause-pattern
returns-clause-pattern c = reads_back

pub returns-clause-resource : goal.returns-clause-resource
returns-clause-resource c = resource-pattern
