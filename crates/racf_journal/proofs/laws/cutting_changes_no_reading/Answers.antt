use Rattle.racf_journal.proofs.Parts.{reads_cut}
use Rattle.racf_journal.proofs.laws.cutting_changes_no_reading.Goals as goal

pub returns : goal.returns
returns c start end file found least within reads behind = reads_cut start file found least within reads end behind
