use Rattle.racf_checkpoint.proofs.Saying.{stored_says}
use Rattle.racf_checkpoint.proofs.laws.what_is_stored_is_said.Goals as goal

pub returns : goal.returns
returns c side epoch start gate kept live idle stored passed =
    stored_says (record { says = c.records_are_read_behind_an_image.ensures.says; counts = c.records_are_read_behind_an_image.ensures.counts }) side epoch start gate kept live idle stored passed
