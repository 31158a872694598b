use Rattle.racf_checkpoint.proofs.New.{new_database_stored, new_size, first_lawful}
use Rattle.racf_checkpoint.proofs.laws.a_new_database_is_stored.Goals as goal

pub returns-clause-stored : goal.returns-clause-stored
returns-clause-stored c = new_database_stored c.images_are_of_rows.ensures.found

pub returns-clause-size : goal.returns-clause-size
returns-clause-size c = new_size

pub returns-clause-checkpoint : goal.returns-clause-checkpoint
returns-clause-checkpoint c = first_lawful (new_database_stored c.images_are_of_rows.ensures.found)
