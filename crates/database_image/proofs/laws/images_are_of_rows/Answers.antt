use Rattle.database_image.proofs.Images.{found, only, own}
use Rattle.database_image.proofs.laws.images_are_of_rows.Goals as goal

pub returns-clause-found : goal.returns-clause-found
returns-clause-found c = found

pub returns-clause-only : goal.returns-clause-only
returns-clause-only c = only

pub returns-clause-own : goal.returns-clause-own
returns-clause-own c = own
