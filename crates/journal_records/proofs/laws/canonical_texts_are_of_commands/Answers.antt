use Rattle.journal_records.proofs.CommandLaws.{one_text, text-short, text-some}
use Rattle.journal_records.proofs.laws.canonical_texts_are_of_commands.Goals as goal

pub returns-clause-one : goal.returns-clause-one
returns-clause-one c = one_text c.one_command_is_spelled.ensures.one c.operands_are_the_tables.ensures.text c.what_is_read_is_lawful.ensures c.canonical_text_is_read_again.ensures

pub returns-clause-most : goal.returns-clause-most
returns-clause-most c = text-short c.one_command_is_spelled.ensures.one c.operands_are_the_tables.ensures.text c.what_is_read_is_lawful.ensures c.canonical_text_is_read_again.ensures

pub returns-clause-least : goal.returns-clause-least
returns-clause-least c = text-some
