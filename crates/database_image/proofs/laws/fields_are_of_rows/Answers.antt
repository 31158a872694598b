use Rattle.database_image.proofs.Images.{fields_found, fields_only}
use Rattle.database_image.proofs.laws.fields_are_of_rows.Goals as goal

pub returns-clause-found : goal.returns-clause-found
returns-clause-found c = fields_found

pub returns-clause-only : goal.returns-clause-only
returns-clause-only c = fields_only
