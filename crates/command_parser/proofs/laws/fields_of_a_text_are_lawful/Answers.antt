use Rattle.command_parser.proofs.Spelled.{lawful_fields}
use Rattle.command_parser.proofs.laws.fields_of_a_text_are_lawful.Goals as goal

pub returns : goal.returns
returns c = lawful_fields c.what_is_read_is_lawful.ensures
