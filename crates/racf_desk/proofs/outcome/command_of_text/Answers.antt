use Rattle.racf_desk.proofs.TextLaws.{reads_command}
use Rattle.racf_desk.proofs.outcome.command_of_text.Goals as goal

-- the command that was read is the one that the text spells
pub returns-in-Ok : goal.returns-in-Ok
returns-in-Ok c = reads_command c.args.id c.args.text.now c.in-Ok.command (c.one_command_is_spelled.ensures.one c.args.id c.args.text.now c.in-Ok.command) c.in-Ok.ensures.found
