use Rattle.racf_journal.proofs.Parts.{reads_rewritten}
use Rattle.racf_journal.proofs.laws.rewriting_the_gate_changes_no_reading.Goals as goal

pub returns : goal.returns
returns c start byte file found least within reads = reads_rewritten start file found least within reads byte
