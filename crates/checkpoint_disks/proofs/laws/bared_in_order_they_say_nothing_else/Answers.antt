use Rattle.checkpoint_disks.proofs.Orders.{first_bared, other_bared}
use Rattle.checkpoint_disks.proofs.laws.bared_in_order_they_say_nothing_else.Goals as goal

pub returns-clause-one : goal.returns-clause-one
returns-clause-one c side one other file kept goes baring says = first_bared side one other file kept goes baring says

pub returns-clause-other : goal.returns-clause-other
returns-clause-other c side one other file kept goes baring says = other_bared side one other file kept goes baring says
