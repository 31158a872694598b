use Rattle.racf_journal.proofs.Rests.{rest_leaves}
use Rattle.racf_journal.proofs.laws.resting_reads_as_its_records.Goals as goal

pub returns : goal.returns
returns c front start gate records m rest = rest_leaves front start gate records m rest
