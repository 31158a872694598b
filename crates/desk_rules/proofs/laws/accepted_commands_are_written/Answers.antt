use Rattle.desk_rules.proofs.AcceptedLaws.{accepted_written}
use Rattle.desk_rules.proofs.laws.accepted_commands_are_written.Goals as goal

-- an accepted command is the one that its text spells
pub returns : goal.returns
returns c = accepted_written c.operands_are_the_tables.ensures.text c.one_command_is_spelled.ensures.one c.what_is_read_is_lawful.ensures c.canonical_text_is_read_again.ensures
